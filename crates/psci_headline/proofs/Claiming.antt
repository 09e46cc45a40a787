-- Where the claims of a list come from: a life's start, or a message that was sent; and back.
use Rattle.std.specs.Prelude.{option_and_then}
use Rattle.psci_board.specs.Board.{up}
use Rattle.psci_ctl_spec.specs.Values as controlled
use Rattle.psci_world_spec.specs.Legal.{sent}
use Rattle.psci_fw_laws.specs.Renumbered.{IsAskedFor, WasAsked}
use Rattle.psci_fw_laws.specs.psci_fw_spec.Effects as says
use Rattle.psci_fw_laws.specs.psci_fw_spec.Effects.{sent_messages}
use Rattle.psci_fw_laws.proofs.Claiming.{claim_new, claim_old, part_has}
use Rattle.psci_headline.specs.Safe.{all_ask, claim_in, claims}
use Rattle.psci_headline.proofs.Sending.{more_calls}
use Rattle.psci_headline.proofs.Words.{◌++◌, ◌+◌, ◌<◌, ◌∙◌, ◌∷◌, ◌≡◌, ◌≤◌, ◌⊎◌, [], acks}
use Rattle.psci_headline.proofs.Words.{AckValue, and_from, ap, AreRising, arith, below}
use Rattle.psci_headline.proofs.Words.{BoardValue, Bool, call, Claim, claim_by, cond, cond-true}
use Rattle.psci_headline.proofs.Words.{cond_both, controller_values, cores, Down, effect, eq-eqb}
use Rattle.psci_headline.proofs.Words.{eqb-true, Event, false, false_from_ne_true, filter}
use Rattle.psci_headline.proofs.Words.{firmware_history, firmware_values, FwExchange, has_node}
use Rattle.psci_headline.proofs.Words.{HasNode, inl, inr, is_on_path, is_path_place, IsClaimOn}
use Rattle.psci_headline.proofs.Words.{IsLegalPast, le-leb, List, list_all, listed, lt-ltb}
use Rattle.psci_headline.proofs.Words.{MessageValue, nat_tests, Node, None, Option, option_map}
use Rattle.psci_headline.proofs.Words.{Part, part_for, range_with_len, Record, refl, Said}
use Rattle.psci_headline.proofs.Words.{sent_in, slice_get, Some, start_of_life, subst, suc, sym}
use Rattle.psci_headline.proofs.Words.{true, Values, values_of, zero, ℕ}

-- The claim of one message ---------------------------------------------------------------------

-- the claim that a message makes, if one was sent and makes one, before the older ones
abbrev pub with_claim_of : BoardValue → ℕ → Values → Node → Option MessageValue → List Claim
    → List Claim
with_claim_of b life v n o old = listed (option_and_then (λ m. claim_in b life v n m) o) ++ old

-- what holds of the claim that a message makes and of each older one holds of each
pub by_claim : (b : BoardValue) (life : ℕ) (v : Values) (n : Node) (P : Claim → Type 0)
    (old : List Claim) (o : Option MessageValue) (k : ℕ) (x : Claim)
    → ((m : MessageValue) (p : Part) → o ≡ Some m → part_for b life n.level n.place m ≡ Some p
    → P (claim_by b v n m.core.number p))
    → ((j : ℕ) → slice_get old j ≡ Some x → P x)
    → slice_get (with_claim_of b life v n o old) k ≡ Some x → P x
by_claim b life v n P old o k x new before at = grind (arith, nat_tests)

-- The start of a life --------------------------------------------------------------------------

-- a node of the board, as the test says
pub node_is : (b : BoardValue) (n : Node) → HasNode b n
    → has_node b (record { level = n.level; place = n.place }) ≡ true
node_is b n has = and_from _ _ (le-leb _ _ has.level) (lt-ltb _ _ has.place)

-- a node of the board that the power controller finds on no path is on none for the firmware
pub off_path : (b : BoardValue) (n : Node) (c : ℕ) → HasNode b n
    → is_on_path b c n.level n.place ≡ false → is_path_place b c n.level n.place ≡ false
off_path b n c has off =
    grind (arith, nat_tests, false_from_ne_true, and_from, le-leb, eq-eqb, eqb-true)

-- Sources --------------------------------------------------------------------------------------

-- A claim of a list with the part that makes it, among these messages or as the life starts.
pub record HasSource (b : BoardValue) (life : ℕ) (n : Node) (messages : List MessageValue)
    (k : Claim) : Type 0 where
  pub part : Part
  pub from : IsClaimOn b life n.level n.place part messages
  pub depth : k.depth ≡ part.depth
  pub generation : k.generation ≡ part.generation

first_source : (b : BoardValue) (life : ℕ) (n : Node) (first : Claim) (k : ℕ) (x : Claim) (t : Bool)
    → HasNode b n → first.depth ≡ 3 → first.generation ≡ 0
    → is_on_path b 0 n.level n.place ≡ t
    → slice_get (cond t [] (first ∷ [])) k ≡ Some x → HasSource b life n [] x
first_source b life n first k x true has deep old on at = absurd (cc)
first_source b life n first (suc k) x false has deep old on at = absurd (cc)
first_source b life n first zero x false has deep old on at =
    let same : first ≡ x = cc in
    record {
      part = record { level = n.level; depth = 3; generation = 0 };
      from = inl (record { node = node_is b n has; off_path = off_path b n 0 has on; is = refl });
      depth = ap (λ (k : Claim). k.depth) (sym same) ∙ deep;
      generation = ap (λ (k : Claim). k.generation) (sym same) ∙ old;
    }

source_new : (b : BoardValue) (life : ℕ) (v : Values) (n : Node) (messages : List MessageValue)
    (o : Option MessageValue) (m : MessageValue) (p : Part) → o ≡ Some m
    → part_for b life n.level n.place m ≡ Some p
    → HasSource b life n (listed o ++ messages) (claim_by b v n m.core.number p)
source_new b life v n messages None m p is e = absurd (cc)
source_new b life v n messages (Some x) m p is e =
    let same : x ≡ m = cc in
    record {
      part = p;
      from = claim_new b life n.level n.place p x messages
          (subst (λ y. part_for b life n.level n.place y ≡ Some p) (sym same) e);
      depth = refl;
      generation = refl;
    }

source_old : (b : BoardValue) (life : ℕ) (n : Node) (messages : List MessageValue)
    (o : Option MessageValue) (x : Claim) → HasSource b life n messages x
    → HasSource b life n (listed o ++ messages) x
source_old b life n messages None x s = s
source_old b life n messages (Some m) x s = record {
  part = s.part;
  from = claim_old b life n.level n.place s.part m messages s.from;
  depth = s.depth;
  generation = s.generation;
}

-- each claim of the list is a claim by the messages that were sent, or by the life's start
pub source : (b : BoardValue) (life : ℕ) (n : Node) (past : List Record) (k : ℕ) (x : Claim)
    → HasNode b n → slice_get (claims b life n past) k ≡ Some x
    → HasSource b life n (sent past) x
unfolding claims sent
source b life n [] k x has at = grind (arith, nat_tests, first_source)
source b life n (r ∷ past) k x has at =
    let o = sent_in r.said in
    by_claim b life (firmware_values b (r ∷ past)) n (HasSource b life n (listed o ++ sent past))
    (claims b life n past) o k x
    (λ m p is e. source_new b life (firmware_values b (r ∷ past)) n (sent past) o m p is e)
    (λ j e. source_old b life n (sent past) o x (source b life n past j x has e)) at

-- And back -------------------------------------------------------------------------------------

-- A claim of this depth and generation is in a list.
pub record IsIn (list : List Claim) (depth generation : ℕ) : Type 0 where
  pub index : ℕ
  pub claim : Claim
  pub at : slice_get list index ≡ Some claim
  pub deep : claim.depth ≡ depth
  pub old : claim.generation ≡ generation

in_more : (x : Claim) (list : List Claim) (depth generation : ℕ) → IsIn list depth generation
    → IsIn (x ∷ list) depth generation
in_more x list depth generation is =
    record { index = suc is.index; claim = is.claim; at = is.at; deep = is.deep; old = is.old }

in_part : (b : BoardValue) (v : Values) (n : Node) (c depth generation : ℕ) (old : List Claim)
    (o : Option Part) → IsIn old depth generation
    → IsIn (listed (option_map (λ p. claim_by b v n c p) o) ++ old) depth generation
in_part b v n c depth generation old o is = grind (arith, nat_tests, in_more)

in_old : (b : BoardValue) (life : ℕ) (v : Values) (n : Node) (depth generation : ℕ)
    (old : List Claim) (o : Option MessageValue) → IsIn old depth generation
    → IsIn (with_claim_of b life v n o old) depth generation
in_old b life v n depth generation old None is = is
in_old b life v n depth generation old (Some m) is =
    in_part b v n m.core.number depth generation old (part_for b life n.level n.place m) is

in_new : (b : BoardValue) (life : ℕ) (v : Values) (n : Node) (old : List Claim) (m : MessageValue)
    (o : Option Part) (p : Part) → part_for b life n.level n.place m ≡ o → o ≡ Some p
    → IsIn (with_claim_of b life v n (Some m) old) p.depth p.generation
in_new b life v n old m o p is e =
    subst (λ (q : Option Part). IsIn (listed (option_map (λ p. claim_by b v n m.core.number p) q)
    ++ old) p.depth p.generation) (sym (is ∙ e))
    (record {
      index = 0;
      claim = claim_by b v n m.core.number p;
      at = refl;
      deep = refl;
      old = refl;
    })

in_sent : (b : BoardValue) (life : ℕ) (v : Values) (n : Node) (messages : List MessageValue)
    (old : List Claim) (o : Option MessageValue) (k : ℕ) (m : MessageValue) (p : Part)
    → slice_get (listed o ++ messages) k ≡ Some m → part_for b life n.level n.place m ≡ Some p
    → ((j : ℕ) → slice_get messages j ≡ Some m → IsIn old p.depth p.generation)
    → IsIn (with_claim_of b life v n o old) p.depth p.generation
in_sent b life v n messages old None k m p at e before = before k at
in_sent b life v n messages old (Some x) zero m p at e before =
    let same : m ≡ x = cc in
    let is = subst (λ y. part_for b life n.level n.place y ≡ Some p) same e in
    in_new b life v n old x (part_for b life n.level n.place x) p refl is
in_sent b life v n messages old (Some x) (suc k) m p at e before =
    in_old b life v n p.depth p.generation old (Some x) (before k at)

-- the part that a message has for a domain is in the list
pub part_in : (b : BoardValue) (life : ℕ) (n : Node) (past : List Record) (k : ℕ)
    (m : MessageValue) (p : Part) → slice_get (sent past) k ≡ Some m
    → part_for b life n.level n.place m ≡ Some p
    → IsIn (claims b life n past) p.depth p.generation
unfolding claims sent
part_in b life n [] k m p at e = absurd (cc)
part_in b life n (r ∷ past) k m p at e =
    in_sent b life (firmware_values b (r ∷ past)) n (sent past) (claims b life n past)
    (sent_in r.said) k m p at e (λ j f. part_in b life n past j m p f e)

first_in : (first : Claim) (t : Bool) → first.depth ≡ 3 → first.generation ≡ 0 → t ≡ false
    → IsIn (cond t [] (first ∷ [])) 3 0
first_in first true deep old off = absurd (cc)
first_in first false deep old off =
    record { index = 0; claim = first; at = refl; deep = deep; old = old }

-- and so is what the life's start claims of it
pub start_in : (b : BoardValue) (life : ℕ) (n : Node) (past : List Record)
    → is_on_path b 0 n.level n.place ≡ false → IsIn (claims b life n past) 3 0
unfolding claims
start_in b life n [] off = grind (arith, nat_tests, first_in)
start_in b life n (r ∷ past) off =
    in_old b life (firmware_values b (r ∷ past)) n 3 0 (claims b life n past) (sent_in r.said)
    (start_in b life n past off)

-- Asking ------------------------------------------------------------------------------------------
-- Each claim of a list was asked for when it was made: its message was, by the values of its
-- record.

-- All cores below a domain ---------------------------------------------------------------------

kept_head : (p : ℕ → Bool) (t : Bool) (a : ℕ) (xs : List ℕ) → (t ≡ true → p a ≡ true)
    → list_all p xs ≡ true → list_all p (cond t (a ∷ xs) xs) ≡ true
kept_head p t a xs here there = grind (arith, nat_tests, and_from)

all_kept : (p test : ℕ → Bool) (a n : ℕ)
    → ((c : ℕ) → a ≤ c → c < a + n → test c ≡ true → p c ≡ true)
    → list_all p (filter test (range_with_len a n)) ≡ true
all_kept p test a zero each = refl
all_kept p test a (suc n) each = grind (arith, nat_tests, kept_head, all_kept p test (a + 1) n)

all_below : (b : BoardValue) (n : Node) (p : ℕ → Bool)
    → ((c : ℕ) → c < cores b → up b n.level c ≡ n.place → p c ≡ true)
    → list_all p (below b n) ≡ true
unfolding up
all_below b n p each = grind (arith, nat_tests, all_kept, eqb-true)

-- The claim of a message -----------------------------------------------------------------------

asked_by : (b : BoardValue) (life : ℕ) (v : Values) (n : Node) (m : MessageValue) (p : Part)
    → IsAskedFor b v m → part_for b life n.level n.place m ≡ Some p
    → (claim_by b v n m.core.number p).asked ≡ true
asked_by b life v n m p fair e = grind (arith, nat_tests, all_below, le-leb, and_from, part_has)

-- The start of a life --------------------------------------------------------------------------

start_asked : (b : BoardValue) (life : ℕ) (n : Node) → HasNode b n
    → is_on_path b 0 n.level n.place ≡ false
    → all_ask b (start_of_life b life) n 3 n.level ≡ true
start_asked b life n has off =
    grind (arith, nat_tests, all_below, le-leb, cond-true, cond_both, eqb-true, and_from, eq-eqb)

first_asked : (first : Claim) (t : Bool) (k : ℕ) (x : Claim) → (t ≡ false → first.asked ≡ true)
    → slice_get (cond t [] (first ∷ [])) k ≡ Some x → x.asked ≡ true
first_asked first t k x asked at = grind (arith, nat_tests)

-- All claims -----------------------------------------------------------------------------------

-- each part that a record's message has for a domain was asked for by then
abbrev pub WereAsked : BoardValue → List Record → Type 0
WereAsked b [] = Unit {0}
WereAsked b (r ∷ past) =
    ((m : MessageValue) (life level place : ℕ) (p : Part) → sent_in r.said ≡ Some m
    → part_for b life level place m ≡ Some p → IsAskedFor b (firmware_values b (r ∷ past)) m)
    × WereAsked b past

pub asked : (b : BoardValue) (life : ℕ) (n : Node) (past : List Record) (k : ℕ) (x : Claim)
    → HasNode b n → WereAsked b past → slice_get (claims b life n past) k ≡ Some x
    → x.asked ≡ true
unfolding claims
asked b life n [] k x has were at = grind (arith, nat_tests, first_asked, start_asked)
asked b life n (r ∷ past) k x has were at =
    grind (arith, nat_tests, by_claim, asked_by, asked b life n past)

-- Records --------------------------------------------------------------------------------------

-- Records --------------------------------------------------------------------------------------

-- one exchange of the firmware, or none
abbrev OneOrNone : List FwExchange → Type 0
OneOrNone list = (list ≡ []) ⊎ ((e : FwExchange) × (list ≡ e ∷ []))

-- a record adds one exchange at most to the firmware's history
adds_one : (v : controlled.Values) (made : List AckValue) (event : Event) (said : Said)
    → OneOrNone (call v made event said)
adds_one v made event said = grind (arith, nat_tests)

more_sent : (r : Record) (past : List Record)
    → sent (r ∷ past) ≡ listed (sent_in r.said) ++ sent past
unfolding sent
more_sent r past = refl

-- The exchange that sent a message -------------------------------------------------------------

sent_later : (m : MessageValue) (o : Option MessageValue) (messages : List MessageValue)
    → (k : ℕ) × (slice_get messages k ≡ Some m)
    → (k : ℕ) × (slice_get (listed o ++ messages) k ≡ Some m)
sent_later m None messages at = at
sent_later m (Some x) messages (k, at) = (suc k, at)

sent_now : (m : MessageValue) (o : Option MessageValue) (messages : List MessageValue)
    → o ≡ Some m → (k : ℕ) × (slice_get (listed o ++ messages) k ≡ Some m)
sent_now m o messages is = grind (arith, nat_tests)

-- what an exchange sent is among the messages
sent_at : (b : BoardValue) (since : List FwExchange) (e : FwExchange) (before : List FwExchange)
    (m : MessageValue) → says.sent (effect b e) ≡ Some m
    → (k : ℕ) × (slice_get (sent_messages b (since ++ (e ∷ before))) k ≡ Some m)
unfolding sent_messages
sent_at b [] e before m is = sent_now m (says.sent (effect b e)) (sent_messages b before) is
sent_at b (s ∷ since) e before m is =
    grind (arith, nat_tests, sent_later, sent_at b since e before m is)

-- a message that no exchange before these sent was asked for by the last of them
by_since : (b : BoardValue) (m : MessageValue) (new h : List FwExchange) (since : List FwExchange)
    (e : FwExchange) (before : List FwExchange) → OneOrNone new
    → ((k : ℕ) → slice_get (sent_messages b h) k ≡ Some m → ⊥)
    → since ++ (e ∷ before) ≡ new ++ h → says.sent (effect b e) ≡ Some m
    → IsAskedFor b (values_of b (e ∷ before)) m → IsAskedFor b (values_of b (new ++ h)) m
by_since b m new h [] e before one fresh parts is fair = grind (arith, nat_tests)
by_since b m new h (s ∷ since) e before one fresh parts is fair = elim one [
  | inl none ↦
      let same : (s ∷ since) ++ (e ∷ before) ≡ h = parts ∙ ap (λ xs. xs ++ h) none in
      let old = sent_at b (s ∷ since) e before m is in
      absurd (fresh old.0
      (subst (λ xs. slice_get (sent_messages b xs) old.0 ≡ Some m) same old.1))
  | inr some ↦
      let both : s ∷ (since ++ (e ∷ before)) ≡ some.0 ∷ h = parts ∙ ap (λ xs. xs ++ h) some.1 in
      let same : since ++ (e ∷ before) ≡ h = cc in
      let old = sent_at b since e before m is in
      absurd (fresh old.0
      (subst (λ xs. slice_get (sent_messages b xs) old.0 ≡ Some m) same old.1))
]

-- Legal runs -----------------------------------------------------------------------------------

-- a message that claims something is sent once
sent_once : (b : BoardValue) (messages : List MessageValue) (m : MessageValue)
    (life level place k : ℕ) (p : Part) → AreRising b (m ∷ messages)
    → part_for b life level place m ≡ Some p → slice_get messages k ≡ Some m → ⊥
sent_once b messages m life level place k p are e at =
    let less = are.later life level place 0 (suc k) m m p p (omega arith) refl at e e in
    omega (arith, less)

-- What the laws say of a legal past.
pub record IsKnown (b : BoardValue) (past : List Record) : Type 0 where
  pub same : sent past ≡ sent_messages b (firmware_history b past)
  pub apart : AreRising b (sent past)
  pub asked : (k : ℕ) (m : MessageValue)
      → slice_get (sent_messages b (firmware_history b past)) k ≡ Some m → m.kind ≡ Down
      → WasAsked b (firmware_history b past) m

asked_now : (b : BoardValue) (r : Record) (past : List Record) → IsKnown b (r ∷ past)
    → IsKnown b past → (m : MessageValue) (life level place : ℕ) (p : Part)
    → sent_in r.said ≡ Some m → part_for b life level place m ≡ Some p
    → IsAskedFor b (firmware_values b (r ∷ past)) m
asked_now b r past now before m life level place p is e =
    let all : sent (r ∷ past) ≡ m ∷ sent past = grind (arith, nat_tests, more_sent) in
    let first = subst (λ ms. slice_get ms 0 ≡ Some m) (sym all ∙ now.same) refl in
    let was = now.asked 0 m first (part_has b life level place m p e).kind in
    subst (λ h. IsAskedFor b (values_of b h) m) (sym (more_calls b r past))
    (by_since b m _ (firmware_history b past) was.since was.entry was.before
    (adds_one (controller_values b past) (acks past) r.event r.said)
    (λ k at. sent_once b (sent past) m life level place k p (subst (AreRising b) all now.apart) e
    (subst (λ ms. slice_get ms k ≡ Some m) (sym before.same) at))
    (was.parts ∙ more_calls b r past) was.sent was.asked)

pub were_asked : (b : BoardValue) (past : List Record)
    → ((some : List Record) → IsLegalPast b some → IsKnown b some) → IsLegalPast b past
    → WereAsked b past
were_asked b [] known legal = tt
were_asked b (r ∷ past) known legal = (
  asked_now b r past (known (r ∷ past) legal) (known past legal.1),
  were_asked b past known legal.1,
)
