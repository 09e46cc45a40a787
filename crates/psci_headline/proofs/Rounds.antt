-- One round: what is outstanding for each core is served once.
use Rattle.std.specs.Prelude.{is_some}
use Rattle.psci_ctl_spec.specs.psci_messages.declared.kind.Kind.TheVariants as kinds
use Rattle.psci_headline.specs.Settling.{is_waiting, round, rounds}
use Rattle.psci_headline.proofs.Applying.{AreDeep}
use Rattle.psci_headline.proofs.Controls.{IsKnown}
use Rattle.psci_headline.proofs.Downs.{down_answered, IsDownAnswered, IsLeft, same_down}
use Rattle.psci_headline.proofs.Serving.{answer_case, finds, indexed_at}
use Rattle.psci_headline.proofs.Beginning.{AreDone, each_done, IsStep}
use Rattle.psci_headline.proofs.Starts.{IsGoing, known_now, out_now, waits_now}
use Rattle.psci_headline.proofs.Nexts.{SettleLaws}
use Rattle.psci_headline.proofs.Words.{◌+◌, ◌<◌, ◌==◌, ◌∙◌, ◌≡◌, ◌≤◌, ◌⊎◌, ap, arith, BoardValue}
use Rattle.psci_headline.proofs.Words.{Bool, cases_lt, cond, cond-false, cond-true}
use Rattle.psci_headline.proofs.Words.{controller_values, cores, deliveries, eq-eqb, false}
use Rattle.psci_headline.proofs.Words.{firmware_values, height, indexed, inl, inr, is_any}
use Rattle.psci_headline.proofs.Words.{IsLivePart, List, list_any, MessageValue, nat_tests}
use Rattle.psci_headline.proofs.Words.{ne_eqb, None, none-some, OfCore, Option, or_parts, Part}
use Rattle.psci_headline.proofs.Words.{range_with_len, Reached, Record, refl, same_Some, sent}
use Rattle.psci_headline.proofs.Words.{served, serving, slice_get, slice_get_within, Some, subst}
use Rattle.psci_headline.proofs.Words.{suc, sym, true, up, zero, ℕ}
use Rattle.psci_headline.proofs.fw_laws.Made.{once_down}

-- live parts of a core's Downs below this level have their depth, after these records
abbrev pub DeepAt : BoardValue → ℕ → ℕ → ℕ → List Record → Type 0
DeepAt b life r c past =
    AreDeep b life (controller_values b past).starts (controller_values b past).depth (sent past) r
    c

-- what is outstanding for a core after these records
abbrev pub out_at : BoardValue → ℕ → List Record → Option MessageValue
out_at b c past = (firmware_values b past).outstanding (OfCore c)

-- What stays so in a round, after so many rounds before it.
pub record InRound (b : BoardValue) (before : List Record) (life n : ℕ) (first past : List Record)
    : Type 0 where
  pub going : IsGoing b before life past
  pub messages : sent past ≡ sent first
  pub starts : (controller_values b past).starts ≡ (controller_values b first).starts
  pub deep : (c : ℕ) → DeepAt b life n c past

-- What is so of a core that is still to be served in the round.
pub record IsTodo (b : BoardValue) (first : List Record) (c : ℕ) (past : List Record)
    : Type 0 where
  pub out : out_at b c past ≡ out_at b c first
  pub count : (k : ℕ) (m : MessageValue) → indexed (sent first) k ≡ Some m
      → m.kind ≡ kinds.Down → m.core.number ≡ c → deliveries k past ≡ deliveries k first

-- What is so of one that was.
pub record IsDone (b : BoardValue) (life n : ℕ) (first : List Record) (c : ℕ)
    (past : List Record) : Type 0 where
  pub deep : DeepAt b life (suc n) c past
  pub left : (m : MessageValue) → out_at b c past ≡ Some m
      → (out_at b c first ≡ Some m) × IsLeft b (controller_values b past).starts m n
  pub most : (k : ℕ) (m : MessageValue) → indexed (sent first) k ≡ Some m
      → m.kind ≡ kinds.Down → m.core.number ≡ c → deliveries k past ≤ deliveries k first + 1
  pub once : (k : ℕ) (m : MessageValue) → indexed (sent first) k ≡ Some m
      → m.kind ≡ kinds.Down → m.core.number ≡ c → out_at b c first ≡ Some m
      → deliveries k past ≡ deliveries k first + 1

-- Numbers --------------------------------------------------------------------------------------

-- a Down has one number
pub one_index : (b : BoardValue) (before : List Record) (life : ℕ) (past : List Record)
    (j k : ℕ) (m : MessageValue) → SettleLaws b → IsGoing b before life past
    → m.kind ≡ kinds.Down → indexed (sent past) j ≡ Some m → indexed (sent past) k ≡ Some m
    → j ≡ k
one_index b before life past j k m laws going kind at_j at_k =
    grind (arith, nat_tests, indexed_at, once_down)

count_most : (t : Bool) → cond {A = ℕ} t 1 0 ≤ 1
count_most t = grind (arith, nat_tests)

-- A step ---------------------------------------------------------------------------------------

-- after these records the same, where neither the starts nor the messages changed
deep_moved : (b : BoardValue) (life r c : ℕ) (past next : List Record)
    → sent next ≡ sent past → (controller_values b next).starts ≡ (controller_values b past).starts
    → AreDeep b life (controller_values b past).starts (controller_values b next).depth (sent past)
    r c
    → DeepAt b life r c next
deep_moved b life r c past next messages starts deep = grind (arith, nat_tests)

-- a live part that may not have its depth is of the outstanding Down
pub deep_or_out : (b : BoardValue) (before : List Record) (life : ℕ) (past : List Record)
    (c k level : ℕ) (m : MessageValue) (p : Part) → SettleLaws b → IsGoing b before life past
    → slice_get (sent past) k ≡ Some m → m.life ≡ life → m.kind ≡ kinds.Down
    → m.core.number ≡ c → slice_get m.parts level ≡ Some p
    → IsLivePart b (controller_values b past).starts m level p
    → ((controller_values b past).depth level (up b level m.core.number) ≡ p.depth)
    ⊎ (out_at b c past ≡ Some m)
deep_or_out b before life past c k level m p laws going at present kind core part live =
    elim ((waits_now b before life past laws going).pursued k m at present kind level p part live) [
      | inl deep ↦ inl deep
      | inr other ↦ elim other [
        | inl waits ↦ inr (subst (λ x. out_at b x past ≡ Some m) core waits)
        | inr pending ↦
            let known = known_now b before life past laws going in
            absurd (going.rests m.core.number (known.messages k m at).sound.core pending)
      ]
    ]

-- where nothing is outstanding for a core
none_done : (b : BoardValue) (before : List Record) (life n : ℕ) (first past : List Record) (c : ℕ)
    → SettleLaws b → InRound b before life n first past → IsTodo b first c past
    → out_at b c past ≡ None → IsDone b life n first c past
none_done b before life n first past c laws is todo none = record {
  deep = λ k level m p at present kind core part live low.
      elim (deep_or_out b before life past c k level m p laws is.going at present kind core part
      live) [
        | inl deep ↦ deep
        | inr out ↦ absurd (none-some m (sym none ∙ out))
      ];
  left = λ m e. absurd (none-some m (sym none ∙ e));
  most = λ k m at kind core. omega (arith, todo.count k m at kind core);
  once = λ k m at kind core out. absurd (none-some m (sym none ∙ todo.out ∙ out));
}

module _ (b : BoardValue) (before : List Record) (life n : ℕ) (first past : List Record)
    (c k : ℕ) (m : MessageValue) (laws : SettleLaws b) (is : InRound b before life n first past)
    (out : out_at b c past ≡ Some m) (core : m.core.number ≡ c)
    (kind : m.kind ≡ kinds.Down) (a : IsDownAnswered b before life past n c k m) where
  abbrev next : List Record
  next = serving b past (Some k)

  -- live parts that have their depth keep it
  deep_kept : (r x : ℕ) → DeepAt b life r x past → DeepAt b life r x next
  deep_kept r x deep = grind (arith, nat_tests, deep_moved)

  round_kept : InRound b before life n first next
  round_kept = grind (arith, nat_tests, deep_kept)

  -- another core's message is not delivered
  same_count : (x j : ℕ) (y : MessageValue) → (x ≡ c → ⊥) → indexed (sent first) j ≡ Some y
      → y.core.number ≡ x → deliveries j next ≡ deliveries j past
  same_count x j y ne at own = grind (arith, nat_tests, same_Some, cond-false, ne_eqb)

  todo_kept : (x : ℕ) → (x ≡ c → ⊥) → IsTodo b first x past → IsTodo b first x next
  todo_kept x ne todo = grind (arith, nat_tests, same_count)

  done_kept : (x : ℕ) → (x ≡ c → ⊥) → IsDone b life n first x past → IsDone b life n first x next
  done_kept x ne done = record {
    deep = deep_kept (suc n) x done.deep;
    left = λ y e.
        let old = done.left y (sym (a.there x ne) ∙ e) in
        (old.0, subst (λ s. IsLeft b s y n) (sym a.starts) old.1);
    most = λ j y at down own. grind (arith, nat_tests, same_count);
    once = λ j y at down own e. same_count x j y ne at own ∙ done.once j y at down own e;
  }

  deep_here : DeepAt b life (suc n) c next
  deep_here =
      deep_moved b life (suc n) c past next a.messages a.starts
      (λ j level y p at present down own part live low.
      elim (deep_or_out b before life past c j level y p laws is.going at present down own part
      live) [
        | inl deep ↦ a.kept j level y p at present down part live deep
        | inr waits ↦ grind (arith, nat_tests, same_Some)
      ])

  done_here : IsTodo b first c past → IsDone b life n first c next
  done_here now = record {
    deep = deep_here;
    left = λ y e. grind (arith, nat_tests);
    most = λ j y at down own. grind (arith, nat_tests, count_most);
    once = λ j y at down own e.
        let same : y ≡ m = same_Some y m (sym e ∙ sym now.out ∙ out) in
        let equal : j ≡ k = one_index b before life past j k m laws is.going kind
        (ap (λ l. indexed l j) is.messages ∙ at ∙ ap Some same) a.at in
        let one : cond {A = ℕ} (j == k) 1 0 ≡ 1 =
        cond-true (j == k) 1 0 (eq-eqb j k equal) in
        omega (arith, a.count j, one, now.count j y at down own);
  }

-- A round --------------------------------------------------------------------------------------

-- a step of a core: what holds where it is served, and where nothing is outstanding
step_case : (b : BoardValue) (before : List Record) (life n : ℕ) (first past : List Record) (c : ℕ)
    (P : List Record → Type 0) → SettleLaws b → InRound b before life n first past
    → (out_at b c past ≡ None → P past)
    → ((k : ℕ) (m : MessageValue) → out_at b c past ≡ Some m → m.core.number ≡ c
    → m.kind ≡ kinds.Down → IsDownAnswered b before life past n c k m
    → P (serving b past (Some k)))
    → P (served b is_any past c)
step_case b before life n first past c P laws is none some =
    answer_case b is_any past c P
    (λ m at.
    let out = out_now b before life past c m laws is.going at in
    finds m (sent past) out.down.index out.down.at)
    none (λ m at other. absurd (cc))
    (λ m at any number.
    let out = out_now b before life past c m laws is.going at in
    some number.number m at out.core out.down.kind
    (down_answered b before life past n c m laws is.going (λ x ne. is.deep x) out number at))

pub round_step : (b : BoardValue) (before : List Record) (life n : ℕ) (first : List Record)
    → SettleLaws b
    → IsStep (served b is_any) (cores b) (InRound b before life n first) (IsTodo b first)
    (IsDone b life n first)
round_step b before life n first laws = record {
  keeps = λ past c on is.
      step_case b before life n first past c (InRound b before life n first) laws is (λ none. is)
      (λ k m out core kind a.
      round_kept b before life n first past c k m laws is out core kind a);
  todo = λ past c x on ne is now old.
      step_case b before life n first past c (IsTodo b first x) laws is (λ none. old)
      (λ k m out core kind a.
      todo_kept b before life n first past c k m laws is out core kind a x ne old);
  done = λ past c x on ne is now old.
      step_case b before life n first past c (IsDone b life n first x) laws is (λ none. old)
      (λ k m out core kind a.
      done_kept b before life n first past c k m laws is out core kind a x ne old);
  here = λ past c on is now.
      step_case b before life n first past c (IsDone b life n first c) laws is
      (λ none. none_done b before life n first past c laws is now none)
      (λ k m out core kind a.
      done_here b before life n first past c k m laws is out core kind a now);
}

-- Bound -------------------------------------------------------------------------------------------
-- How many rounds there are until nothing is outstanding, and how often a Down is delivered.

-- A Down that was delivered in each of so many rounds.
pub record IsOften (b : BoardValue) (before : List Record) (n : ℕ) (past : List Record)
    : Type 0 where
  pub number : ℕ
  pub message : MessageValue
  pub at : indexed (sent past) number ≡ Some message
  pub kind : message.kind ≡ kinds.Down
  pub times : deliveries number past ≡ deliveries number before + n

-- What is so after so many rounds.
pub record IsRound (b : BoardValue) (before : List Record) (life n : ℕ) (past : List Record)
    : Type 0 where
  pub going : IsGoing b before life past
  -- live parts of lower levels have their depth
  pub deep : (c : ℕ) → DeepAt b life n c past
  -- no Down was delivered more often, and what is outstanding as often
  pub most : (k : ℕ) (m : MessageValue) → indexed (sent past) k ≡ Some m → m.kind ≡ kinds.Down
      → deliveries k past ≤ deliveries k before + n
  pub once : (c k : ℕ) (m : MessageValue) → indexed (sent past) k ≡ Some m → c < cores b
      → out_at b c past ≡ Some m → deliveries k past ≡ deliveries k before + n
  -- of what is outstanding a live part of such a level is left
  pub left : (r c : ℕ) (m : MessageValue) → n ≡ suc r → c < cores b → out_at b c past ≡ Some m
      → IsLeft b (controller_values b past).starts m r
  pub last : 0 < n → IsOften b before n past

-- A core for which something is outstanding.
record IsWaiting (b : BoardValue) (past : List Record) : Type 0 where
  pub core : ℕ
  pub on : core < cores b
  pub message : MessageValue
  pub out : out_at b core past ≡ Some message

-- One round more -------------------------------------------------------------------------------

one_round : (b : BoardValue) (before : List Record) (life n : ℕ) (past : List Record)
    → SettleLaws b → IsRound b before life n past → IsWaiting b past
    → IsRound b before life (suc n) (round b past)
unfolding round
one_round b before life n past laws is waits = record {
  going = all.holds.going;
  deep = λ c k level m p at present kind core part live low.
      let on : c < cores b = subst (λ x. x < cores b) core
      ((known_now b before life next laws all.holds.going).messages k m at).sound.core in
      (all.done c on).deep k level m p at present kind core part live low;
  most = λ k m at kind.
      let old = earlier k m at in
      let place = indexed_at (sent past) k m old in
      let on = (known.messages _ m place.1).sound.core in
      omega (arith, (all.done m.core.number on).most k m old kind refl, is.most k m old kind);
  once = λ c k m at on e.
      let old = earlier k m at in
      let was = ((all.done c on).left m e).0 in
      let out = out_now b before life past c m laws is.going was in
      omega (
        arith,
        (all.done c on).once k m old out.down.kind out.core was,
        is.once c k m old on was,
      );
  left = λ r c m same on e.
      let equal : n ≡ r = omega (arith, same) in
      subst (λ l. IsLeft b (controller_values b next).starts m l) equal
      ((all.done c on).left m e).1;
  last = λ some.
      let m : MessageValue = waits.message in
      let out = out_now b before life past waits.core m laws is.going waits.out in
      let number = finds m (sent past) out.down.index out.down.at in
      let at : indexed (sent past) number.number ≡ Some m =
      number.at ∙ ap Some (same_down b before life past waits.core m laws is.going out number) in
      record {
        number = number.number;
        message = m;
        at = ap (λ l. indexed l number.number) all.holds.messages ∙ at;
        kind = out.down.kind;
        times = omega (
          arith,
          (all.done waits.core waits.on).once number.number m at out.down.kind out.core waits.out,
          is.once waits.core number.number m at waits.on waits.out,
        );
      };
}
  where
    next : List Record
    next = round b past

    known : IsKnown b life (controller_values b past).starts (firmware_values b past) (sent past)
    known = known_now b before life past laws is.going

    all : AreDone (cores b) (InRound b before life n past) (IsDone b life n past) (round b past)
    all = each_done (served b is_any) (cores b) (InRound b before life n past) (IsTodo b past)
        (IsDone b life n past) (round_step b before life n past laws) past
        (record { going = is.going; messages = refl; starts = refl; deep = is.deep })
        (λ c on. record { out = refl; count = λ k m at kind core. refl })

    earlier : (k : ℕ) (m : MessageValue) → indexed (sent next) k ≡ Some m
        → indexed (sent past) k ≡ Some m
    earlier k m at = ap (λ l. indexed l k) (sym all.holds.messages) ∙ at

-- All rounds -----------------------------------------------------------------------------------

-- What is so where nothing is outstanding any more.
pub record HasRest (b : BoardValue) (before : List Record) (life : ℕ) (reached : Reached)
    : Type 0 where
  pub is : IsRound b before life reached.rounds reached.past
  pub none : (c : ℕ) → c < cores b → out_at b c reached.past ≡ None
  pub few : reached.rounds ≤ height b + 1

any_none : (f : ℕ → Bool) (a n c : ℕ) → list_any f (range_with_len a n) ≡ false → a ≤ c
    → c < a + n → f c ≡ false
any_none f a zero c e low high = absurd (omega (arith, low, high))
any_none f a (suc n) c e low high =
    grind (arith, nat_tests, or_parts, cases_lt, any_none f (a + 1) n c)

-- A number of a range that passes a test.
record HasOne (f : ℕ → Bool) (a n : ℕ) : Type 0 where
  pub one : ℕ
  pub low : a ≤ one
  pub high : one < a + n
  pub passes : f one ≡ true

any_one : (f : ℕ → Bool) (a n : ℕ) → list_any f (range_with_len a n) ≡ true → HasOne f a n
any_one f a zero e = absurd (cc)
any_one f a (suc n) e = grind (arith, nat_tests, any_one f (a + 1) n)

some_is : (o : Option MessageValue) → is_some o ≡ true
    → (m : MessageValue) × (o ≡ Some m)
some_is o e = grind (arith, nat_tests)

none_is : (o : Option MessageValue) → is_some o ≡ false → o ≡ None
none_is o e = grind (arith, nat_tests)

-- after one round for each level nothing is outstanding
none_left : (b : BoardValue) (before : List Record) (life n : ℕ) (past : List Record) (c : ℕ)
    (o : Option MessageValue) → SettleLaws b → IsRound b before life n past → n ≡ height b + 1
    → c < cores b → out_at b c past ≡ o → o ≡ None
none_left b before life n past c None laws is all on e = refl
none_left b before life n past c (Some m) laws is all on e =
    let out = out_now b before life past c m laws is.going e in
    let left = is.left (height b) c m (omega (arith, all)) on e in
    let within = slice_get_within m.parts left.level left.part left.at in
    absurd (omega (arith, within, left.high, out.down.few))

pub comes_to_rest : (b : BoardValue) (before : List Record) (life more n : ℕ) (past : List Record)
    → SettleLaws b → more + n ≡ height b + 1 → IsRound b before life n past
    → HasRest b before life (rounds b more past n)
unfolding rounds is_waiting
comes_to_rest b before life zero n past laws all is =
    let enough : n ≡ height b + 1 = omega (arith, all) in
    record {
      is = is;
      none = λ c on.
          none_left b before life n past c (out_at b c past) laws is enough on refl;
      few = omega (arith, enough);
    }
comes_to_rest b before life (suc more) n past laws all is =
    by_test (λ waits.
    let next = one_round b before life n past laws is waits in
    let flat : suc n ≡ n + 1 = omega arith in
    comes_to_rest b before life more (n + 1) (round b past) laws (omega (arith, all))
    (subst (λ k. IsRound b before life k (round b past)) flat next))
    (is_waiting b past) refl
  where
    by_test : (IsWaiting b past → HasRest b before life (rounds b more (round b past) (n + 1)))
        → (t : Bool) → is_waiting b past ≡ t
        → HasRest b before life
        (cond t (rounds b more (round b past) (n + 1)) (record { past = past; rounds = n }))
    by_test rest true e =
        let one = any_one (λ c. is_some (out_at b c past)) 0 (cores b) e in
        let some = some_is (out_at b one.one past) one.passes in
        rest (record {
          core = one.one;
          on = omega (arith, one.high);
          message = some.0;
          out = some.1;
        })
    by_test rest false e = record {
      is = is;
      none = λ c on.
          none_is (out_at b c past)
          (any_none (λ x. is_some (out_at b x past)) 0 (cores b) c e (omega arith)
          (omega (arith, on)));
      few = omega (arith, all);
    }
