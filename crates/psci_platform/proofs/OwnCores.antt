-- An affinity word names the same in the identity of a board, which has no fault.
use Rattle.std.specs.Result.{result_ok}
use Rattle.std.proofs.lemmas.Bool.{cases_eq, ne_eqb}
use Rattle.std.proofs.lemmas.List.Folds.{list_all-map, list_any_none}
use Rattle.std.proofs.lemmas.List.FromFn.{get_or-map-range_with_len, length-map-range_with_len}
use Rattle.std.proofs.lemmas.List.Sums.{fails_before_first}
use Rattle.psci_abi.specs.declared.request.Request.TheVariants as requests
use Rattle.psci_messages.specs.Message.{MessageValue}
use Rattle.psci_fw_spec.specs.Effects.{after, change, Effect, effect_of, function_effect}
use Rattle.psci_fw_spec.specs.Answer.{answer, call_fault, outcome_of, reply_or}
use Rattle.psci_fw_spec.specs.PowerCalls.{ask_named, target_of}
use Rattle.psci_fw_spec.specs.Values.{Values}
use Rattle.psci_fw_spec.specs.declared.call.FwCall.TheVariants.{Smc}
use Rattle.psci_fw_spec.specs.declared.outcome.Act.{Act}
use Rattle.psci_fw_spec.specs.declared.reply.FwReply.{FwReply}
use Rattle.psci_fw_spec.specs.declared.reply.FwReply.TheVariants as replies
use Rattle.psci_platform.specs.Calls.{asked_for, feature_word, regs_for}
use Rattle.psci_platform.specs.Faults.{boot_fault_of, fault_of, never_falls, row_fault_of}
use Rattle.psci_platform.specs.Faults.{state_fault_of}
use Rattle.psci_platform.specs.Identity.{asks_depths, asks_up_to, own_asked, own_classes}
use Rattle.psci_platform.proofs.Named.{BoardLaws, core_is_named, counted_cons, found, own_place}
use Rattle.psci_platform.proofs.Named.{place_is}
use Rattle.psci_platform.proofs.OwnStates.{state_same, StateLaws, states_are}
use Rattle.psci_platform.proofs.Swaps.{at_zero, half_of, node_is, request_with, short}
use Rattle.psci_platform.proofs.Swaps.{with_first, word_short}
use Rattle.psci_platform.proofs.Swapped.{all_of}
use Rattle.psci_platform.proofs.Words.{◌*◌, ◌+◌, ◌/◌, ◌<◌, ◌==◌, ◌^◌, ◌∙◌, ◌∷◌, ◌≡◌, ◌≤◌, []}
use Rattle.psci_platform.proofs.Words.{address, ap, argument, arith, ask_of, asked_by}
use Rattle.psci_platform.proofs.Words.{asks_states, BadState, BoardValue, Bool, boot_place, Core}
use Rattle.psci_platform.proofs.Words.{core_named, core_of, core_word, cores, count_by}
use Rattle.psci_platform.proofs.Words.{deepest_of, DescriptionValue, eq-eqb, Err, every_function}
use Rattle.psci_platform.proofs.Words.{Extended, false, first_argument, Format, function_of}
use Rattle.psci_platform.proofs.Words.{has_boot, has_same, height, identity, inl, inr, is_mpidr}
use Rattle.psci_platform.proofs.Words.{is_there, le-leb, le-ltb, length, List, list_all}
use Rattle.psci_platform.proofs.Words.{list_any_at, low_half, map, nat_lt, nat_tests, Node}
use Rattle.psci_platform.proofs.Words.{node_of, None, none-some, Ok, Option, option_map}
use Rattle.psci_platform.proofs.Words.{Original, position, range_with_len, refl, Regs, Request}
use Rattle.psci_platform.proofs.Words.{request_of, Result, row_asking, same_Some, slice_index}
use Rattle.psci_platform.proofs.Words.{Some, states_of, subst, suc, SuspendMode, swap_for, sym}
use Rattle.psci_platform.proofs.Words.{true, up, word_for, zero, ℕ}

-- the affinity words of the cores
abbrev pub own_words : BoardValue → List ℕ
own_words b = map (address b 0) (range_with_len 0 (cores b))

pub own_count : (b : BoardValue) → length (own_words b) ≡ cores b
own_count b = length-map-range_with_len (address b 0) 0 (cores b)

pub own_word : (b : BoardValue) (c : ℕ) → c < cores b → slice_index (own_words b) c ≡ address b 0 c
own_word b c inside = get_or-map-range_with_len (address b 0) 0 (cores b) c c 0 inside (omega arith)

-- nothing passes where nothing is found
none_at : (p : ℕ → Bool) (xs : List ℕ) (k : ℕ) → position p xs ≡ None → k < length xs
    → p (slice_index xs k) ≡ true → ⊥
none_at p xs k none below passes = grind (arith, nat_tests, fails_before_first p xs k 0)

-- the fields of a core at a level and above are those of its domain
own_fields : (b : BoardValue) (c l : ℕ) → BoardLaws b → c < cores b → l ≤ height b
    → address b l (up b l c) ≡ address b 0 c / 2 ^ (8 * l)
own_fields b c l laws inside low =
    laws.words.fields (address b 0 c) l (record { level = l; place = up b l c })
    (laws.words.path c l inside low)

-- a word has the fields of another one at a level and above
abbrev agrees : ℕ → ℕ → ℕ → Bool
agrees l word mpidr = mpidr / 2 ^ (8 * l) == word / 2 ^ (8 * l)

-- no core has the fields of a word: it names no node
none_named : (b : BoardValue) (word l : ℕ) (o : Option Node) → BoardLaws b
    → core_named (identity b) b word l ≡ None → node_of b word l ≡ o → o ≡ None
none_named b word l None laws none e = refl
none_named b word l (Some n) laws none e =
    let has = laws.words.node word l n e in
    let level : n.level ≡ l = laws.words.level word l n e in
    let low : l ≤ height b = omega (arith, level, has.level) in
    let core = laws.tree.paths.some_core n has in
    let there : up b l core.0 ≡ n.place = ap (λ (k : ℕ). up b k core.0) (sym level) ∙ core.2 in
    let fields : address b l n.place ≡ word / 2 ^ (8 * l) = laws.words.fields word l n e in
    let own = own_fields b core.0 l laws core.1 low in
    let same : address b 0 core.0 / 2 ^ (8 * l) ≡ word / 2 ^ (8 * l) =
    sym own ∙ (ap (address b l) there ∙ fields) in
    let passes : agrees l word (address b 0 core.0) ≡ true = eq-eqb _ _ same in
    let none_here : position (agrees l word) (own_words b) ≡ None =
    rw (le-leb l (height b) low) at none in
    absurd (none_at (agrees l word) (own_words b) core.0 none_here
    (omega (arith, own_count b, core.1))
    (ap (agrees l word) (own_word b core.0 core.1) ∙ passes))

-- a core that has the fields of a word: the word names its domain
named_own : (b : BoardValue) (word l : ℕ) (o : Option ℕ) → BoardLaws b
    → core_named (identity b) b word l ≡ o
    → node_of b word l ≡ option_map (λ c. record { level = l; place = up b l c }) o
named_own b word l None laws none = none_named b word l (node_of b word l) laws none refl
named_own b word l (Some c) laws e =
    let at = found (identity b) b word l c e in
    let inside : c < cores b = omega (arith, own_count b, at.inside) in
    laws.words.named word (record { level = l; place = up b l c })
    (record { level = at.low; place = laws.tree.paths.inside c l inside at.low })
    (own_fields b c l laws inside at.low
    ∙ ap (λ (x : ℕ). x / 2 ^ (8 * l)) (sym (own_word b c inside)) ∙ at.fields)

none_moved : (b : BoardValue) (o : Option ℕ) → BoardLaws b → option_map (swap_for b 0 0) o ≡ o
none_moved b None laws = refl
none_moved b (Some c) laws = rw (own_place b 0 c laws.tree) refl

-- the word that the firmware is asked with for a word has 32 bits and names the same node
pub node_same : (b : BoardValue) (word l : ℕ) → BoardLaws b
    → (core_word (identity b) b 0 word l < 2 ^ 32)
    × (node_of b (core_word (identity b) b 0 word l) l ≡ node_of b word l)
node_same b word l laws =
    let own = at_zero (identity b) b laws (own_count b) in (
      word_short (identity b) b 0 own word l,
      node_is (identity b) b 0 own word l
          ∙ ap (option_map (λ c. record { level = l; place = up b l c }))
          (none_moved b (core_named (identity b) b word l) laws)
          ∙ sym (named_own b word l (core_named (identity b) b word l) laws refl),
    )

-- the node of a core tells which it is
one_core : (o p : Option Core)
    → ◌≡◌ {A = Option Node} (option_map (λ c. record { level = 0; place = c.number }) o)
    (option_map (λ c. record { level = 0; place = c.number }) p) → o ≡ p
one_core None None e = refl
one_core None (Some d) e = absurd (none-some _ e)
one_core (Some c) None e = absurd (none-some _ (sym e))
one_core (Some c) (Some d) e =
    ap (λ (n : Node). let core : Option Core = Some (record { number = n.place }) in core)
    (same_Some _ _ e)

pub core_same : (b : BoardValue) (word : ℕ) → BoardLaws b
    → core_of b (core_word (identity b) b 0 word 0) ≡ core_of b word
core_same b word laws =
    one_core (core_of b (core_word (identity b) b 0 word 0)) (core_of b word)
    (sym (laws.words.core_node (core_word (identity b) b 0 word 0))
    ∙ ((node_same b word 0 laws).1 ∙ laws.words.core_node word))

-- No fault ----------------------------------------------------------------------------------------

-- Rows and what follows them --------------------------------------------------------------------

-- the identity of a board of this format and height, whatever the MPIDRs
abbrev own : List ℕ → Format → ℕ → DescriptionValue
own mpidrs format height = record {
  mpidrs = mpidrs;
  levels = height;
  classes = own_classes ∷ own_classes ∷ own_classes ∷ own_classes ∷ [];
  rows = map (row_asking format) (asks_up_to height);
  system = deepest_of height;
  functions = every_function;
  resets = [];
}

rows_fine : (mpidrs : List ℕ) (b : BoardValue) (format : Format) (levels : List (List ℕ))
    → 0 < length levels → length levels ≤ 3
    → row_fault_of (own mpidrs format (length levels))
    (record b { levels = levels; format = format }) ≡ None
unfolding row_fault_of state_fault_of asks_up_to
rows_fine mpidrs b format [] low high = absurd (omega (arith, low))
rows_fine mpidrs b Original (x ∷ []) low high = refl
rows_fine mpidrs b Extended (x ∷ []) low high = refl
rows_fine mpidrs b Original (x ∷ y ∷ []) low high = refl
rows_fine mpidrs b Extended (x ∷ y ∷ []) low high = refl
rows_fine mpidrs b Original (x ∷ y ∷ z ∷ []) low high = refl
rows_fine mpidrs b Extended (x ∷ y ∷ z ∷ []) low high = refl
rows_fine mpidrs b format (x ∷ y ∷ z ∷ w ∷ more) low high = absurd (omega (arith, high))

-- MPIDRs ----------------------------------------------------------------------------------------

is_short : (x : ℕ) → x < 2 ^ 24 → is_mpidr x ≡ true
is_short x small = grind (arith, nat_tests)

are_short : (b : BoardValue) → BoardLaws b → list_all is_mpidr (own_words b) ≡ true
are_short b laws =
    list_all-map is_mpidr (address b 0) (range_with_len 0 (cores b))
    ∙ all_of (λ c. is_mpidr (address b 0 c)) 0 (cores b)
    (λ c low high. is_short (address b 0 c) (laws.words.short c (omega (arith, high))))

-- a number that f does not give is counted nowhere
never : (f : ℕ → ℕ) (x n a : ℕ) → ((i : ℕ) → a ≤ i → i < a + n → (f i == x) ≡ false)
    → count_by (λ y. y == x) (map f (range_with_len a n)) ≡ 0
never f x zero a apart = refl
never f x (suc n) a apart =
    grind (
      arith,
      apart a (omega arith) (omega arith),
      counted_cons (λ y. y == x) (f a) (map f (range_with_len (a + 1) n)),
      never f x n (a + 1) (λ i low high. apart i (omega (arith, low)) (omega (arith, high))),
    )

-- different places have different words
abbrev Differ : (ℕ → ℕ) → ℕ → Type 0
Differ f most = (i j : ℕ) → i < most → j < most → f i ≡ f j → i ≡ j

once : (f : ℕ → ℕ) (most x n a : ℕ) → Differ f most → a + n ≤ most
    → count_by (λ y. y == x) (map f (range_with_len a n)) ≤ 1
once f most x zero a differ inside = omega arith
once f most x (suc n) a differ inside =
    let count = counted_cons (λ y. y == x) (f a) (map f (range_with_len (a + 1) n)) in
    elim (cases_eq (f a) x) [
      | inl is ↦
          grind (
            arith,
            nat_tests,
            count,
            never f x n (a + 1) (λ i low high. ne_eqb (f i) x (λ same.
                let at : i ≡ a = differ i a (omega arith) (omega arith) (same ∙ sym is) in
                absurd (omega (arith, at, low)))),
          )
      | inr other ↦
          grind (arith, nat_tests, count, once f most x n (a + 1) differ (omega (arith, inside)))
    ]

one_number : (i j : ℕ)
    → ◌≡◌ {A = Option Core} (Some (record { number = i })) (Some (record { number = j })) → i ≡ j
one_number i j e = ap (λ (c : Core). c.number) (same_Some _ _ e)

own_differ : (b : BoardValue) → BoardLaws b → Differ (address b 0) (cores b)
own_differ b laws i j low high same =
    let here = laws.words.core_named i low in
    let there = laws.words.core_named j high in
    one_number i j (sym here ∙ (ap (core_of b) same ∙ there))

own_once : (b : BoardValue) → BoardLaws b → has_same (own_words b) ≡ false
own_once b laws =
    list_any_none (λ x. nat_lt 1 (count_by (λ y. y == x) (own_words b))) (own_words b)
    (λ k d inside. le-ltb 1 _
    (once (address b 0) (cores b) _ (cores b) 0 (own_differ b laws) (omega arith)))

-- The whole -------------------------------------------------------------------------------------

first_word : (b : BoardValue) → BoardLaws b → slice_index (own_words b) 0 ≡ address b 0 0
first_word b laws = own_word b 0 (laws.tree.sizes.some 0)

pub faultless : (b : BoardValue) → BoardLaws b
    → fault_of (identity b) b (address b 0 0) ≡ None
unfolding fault_of boot_fault_of never_falls
faultless b laws =
    let first : (slice_index (own_words b) 0 == address b 0 0) ≡ true =
    eq-eqb _ _ (first_word b laws) in
    let there : has_boot (own_words b) (address b 0 0) ≡ true =
    list_any_at (λ x. x == address b 0 0) (own_words b) 0 0
    (omega (arith, own_count b, laws.tree.sizes.some 0)) first in
    rw (
      eq-eqb (length (own_words b)) (cores b) (own_count b),
      are_short b laws,
      own_once b laws,
      there,
      first,
      le-ltb (height b) (height b) (omega arith),
    ) (rows_fine (own_words b) b b.format b.levels laws.board.low laws.board.high)

pub first_boots : (b : BoardValue) → BoardLaws b
    → boot_place (identity b) b (address b 0 0) ≡ 0
first_boots b laws =
    place_is (identity b) b (address b 0 0) 0
    (ap (λ (m : ℕ). core_named (identity b) b m 0) (sym (first_word b laws))
    ∙ core_is_named (identity b) b (address b 0 0) 0 (faultless b laws) (laws.tree.sizes.some 0))

-- Own calls ---------------------------------------------------------------------------------------
-- A call of the identity of a board is answered as the firmware answers it, and what is told beside
-- are the depths that the firmware is asked for.

-- What the proofs stand on.
pub record Laws (b : BoardValue) : Type 0 where
  pub tree : BoardLaws b
  pub states : StateLaws

-- Two requests that the firmware reads alike: of one function, with words that ask or name the
-- same, or the same request.
abbrev Alike : BoardValue → Request → Request → Type 0
Alike b (requests.CpuSuspend state entry_point context) q =
    (w : ℕ) × (ask_named b w ≡ ask_named b state) × (q ≡ requests.CpuSuspend w entry_point context)
Alike b (requests.CpuOn target entry_point context) q =
    (w : ℕ) × (core_of b w ≡ core_of b target) × (q ≡ requests.CpuOn w entry_point context)
Alike b (requests.AffinityInfo level target) q =
    (w : ℕ) × (node_of b w level ≡ node_of b target level) × (q ≡ requests.AffinityInfo level w)
Alike b (requests.NodeHwState level target) q =
    (w : ℕ) × (node_of b w level ≡ node_of b target level) × (q ≡ requests.NodeHwState level w)
Alike b r q = q ≡ r

-- the request that the firmware is asked with for a request
abbrev told : BoardValue → SuspendMode → Regs → Request → Request
told b mode regs r = with_first (argument regs (first_argument (identity b) b 0 mode regs.x1 r)) r

-- the word of a request
abbrev word_in : Request → ℕ
word_in (requests.CpuSuspend state entry_point context) = state
word_in (requests.Features word) = word
word_in (requests.SystemReset2 reset_type cookie) = reset_type
word_in r = 0

-- every function is there
all_there : (r : Request) → is_there every_function r ≡ true
all_there requests.Version = refl
all_there r = refl

feature_same : (b : BoardValue) (word : ℕ) → feature_word (identity b) word ≡ word
feature_same b word = rw (all_there (function_of word 0 0 0)) refl

-- a domain is named alike
node_alike : (b : BoardValue) (regs : Regs) (target level : ℕ) → Laws b
    → node_of b (argument regs (core_word (identity b) b 0 target level)) level
    ≡ node_of b target level
node_alike b regs target level laws =
    let w = core_word (identity b) b 0 target level in
    let same = node_same b target level laws.tree in
    ap (λ (x : ℕ). node_of b x level) (short regs w same.0) ∙ same.1

alike_at : (b : BoardValue) (mode : SuspendMode) (regs : Regs) (r : Request) → Laws b
    → with_first (argument regs regs.x1) r ≡ r → Alike b r (told b mode regs r)
alike_at b mode regs (requests.CpuSuspend state e c) laws own =
    let small : state < 2 ^ 32 = omega (arith, ap word_in own) in
    let w = word_for (identity b) b.format (states_of (identity b) mode state) in
    let same = state_same b mode state laws.states small in
    (low_half (argument regs w), ap (ask_named b) (half_of regs w same.0) ∙ same.1, refl)
alike_at b mode regs (requests.CpuOn target e c) laws own =
    let w = core_word (identity b) b 0 target 0 in
    let same = node_same b target 0 laws.tree in
    (argument regs w, ap (core_of b) (short regs w same.0) ∙ core_same b target laws.tree, refl)
alike_at b mode regs (requests.AffinityInfo level target) laws own =
    (_, node_alike b regs target level laws, refl)
alike_at b mode regs (requests.Features word) laws own =
    let small : word < 2 ^ 32 = omega (arith, ap word_in own) in
    ap (λ (x : ℕ). requests.Features (low_half (argument regs x))) (feature_same b word)
    ∙ ap requests.Features (half_of regs word small)
alike_at b mode regs (requests.NodeHwState level target) laws own =
    (_, node_alike b regs target level laws, refl)
alike_at b mode regs (requests.SystemReset2 t c) laws own =
    let small : t < 2 ^ 32 = omega (arith, ap word_in own) in
    ap (λ (x : ℕ). requests.SystemReset2 x c) (half_of regs t small)
alike_at b mode regs r laws own = own

-- the call that the firmware is asked with for a call
call_alike : (b : BoardValue) (mode : SuspendMode) (regs : Regs) → Laws b
    → Alike b (request_of regs) (request_of (regs_for (identity b) b 0 mode regs))
unfolding regs_for
call_alike b mode regs laws =
    let r = request_of regs in
    let own : with_first (argument regs regs.x1) r ≡ r = sym (request_with regs regs.x1) in
    rw (all_there r) (subst (λ (q : Request). Alike b r q)
    (sym (request_with regs (first_argument (identity b) b 0 mode regs.x1 r)))
    (alike_at b mode regs r laws own))

-- Answers ---------------------------------------------------------------------------------------

outcome_alike : (b : BoardValue) (v : Values) (c : ℕ) (r q : Request) → Alike b r q
    → outcome_of b v c q ≡ outcome_of b v c r
unfolding outcome_of target_of
outcome_alike b v c (requests.CpuSuspend state e x) q same = rw (same.2, same.1)
outcome_alike b v c (requests.CpuOn target e x) q same = rw (same.2, same.1)
outcome_alike b v c (requests.AffinityInfo level target) q same = rw (same.2, same.1)
outcome_alike b v c (requests.NodeHwState level target) q same = rw (same.2, same.1)
outcome_alike b v c r q same = ap (outcome_of b v c) same

pub answer_same : (b : BoardValue) (v : Values) (c : ℕ) (regs : Regs) → Laws b
    → answer b v c (Smc (regs_for (identity b) b 0 v.mode regs)) ≡ answer b v c (Smc regs)
unfolding answer
answer_same b v c regs laws =
    ap (reply_or (call_fault b v c))
    (outcome_alike b v c (request_of regs) (request_of (regs_for (identity b) b 0 v.mode regs))
    (call_alike b v.mode regs laws))

-- What is kept ----------------------------------------------------------------------------------

-- a function that ended so comes down to the same
effect_alike : (b : BoardValue) (c : ℕ) (r q : Request) (act : Act) (sent : Option MessageValue)
    → Alike b r q → function_effect b c q act sent ≡ function_effect b c r act sent
effect_alike b c (requests.CpuSuspend state e x) q act sent same = rw same.2 (grind arith)
effect_alike b c (requests.CpuOn target e x) q act sent same = rw same.2 (grind arith)
effect_alike b c (requests.AffinityInfo level target) q act sent same = rw same.2 (grind arith)
effect_alike b c (requests.NodeHwState level target) q act sent same = rw same.2 (grind arith)
effect_alike b c r q act sent same = rw same refl

effect_same : (b : BoardValue) (c : ℕ) (regs other : Regs) (reply : FwReply)
    → Alike b (request_of regs) (request_of other)
    → effect_of b c (Smc other) reply ≡ effect_of b c (Smc regs) reply
effect_same b c regs other (replies.Out o) same =
    effect_alike b c (request_of regs) (request_of other) o.act o.message same
effect_same b c regs other (replies.Taken t) same = refl
effect_same b c regs other (replies.Fault fault) same = refl

pub after_same : (b : BoardValue) (c : ℕ) (regs : Regs) (mode : SuspendMode) (reply : FwReply)
    (v : Values) → Laws b
    → after b c (Smc (regs_for (identity b) b 0 mode regs)) reply v
    ≡ after b c (Smc regs) reply v
unfolding after
after_same b c regs mode reply v laws =
    ap (λ (e : Effect). change b e v)
    (effect_same b c regs (regs_for (identity b) b 0 mode regs) reply (call_alike b mode regs laws))

-- What is told beside ---------------------------------------------------------------------------

-- the depths that the firmware is asked for, if it is asked for some
depths_told : (r : Result (List ℕ) BadState) → asks_states (result_ok r) ≡ asks_depths r
depths_told (Ok ask) = refl
depths_told (Err bad) = refl

asked_at : (b : BoardValue) (mode : SuspendMode) (regs : Regs) (r : Request) → Laws b
    → with_first (argument regs regs.x1) r ≡ r → asked_by (identity b) mode r ≡ own_asked b r
asked_at b mode regs (requests.CpuSuspend state e c) laws own =
    let small : state < 2 ^ 32 = omega (arith, ap word_in own) in
    ap asks_states (states_are b mode state laws.states small)
    ∙ depths_told (ask_of b.format (height b) state)
asked_at b mode regs r laws own = refl

pub asked_same : (b : BoardValue) (mode : SuspendMode) (regs : Regs) → Laws b
    → asked_for (identity b) mode regs ≡ own_asked b (request_of regs)
unfolding asked_for
asked_same b mode regs laws =
    let r = request_of regs in
    rw (all_there r) (asked_at b mode regs r laws (sym (request_with regs regs.x1)))
