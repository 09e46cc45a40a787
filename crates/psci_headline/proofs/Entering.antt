-- After every legal history each entry has taken up an opening of its own.
use Rattle.std.specs.Option.{option_or}
use Rattle.psci_fw_laws.specs.psci_fw_spec.Answer.{answer, enter_outcome, function_outcome}
use Rattle.psci_fw_laws.specs.psci_fw_spec.Answer.{outcome_at, outcome_of}
use Rattle.psci_fw_laws.specs.psci_fw_spec.History.{life, values_of}
use Rattle.psci_fw_laws.specs.psci_fw_spec.PowerCalls.{stops}
use Rattle.psci_fw_laws.specs.psci_fw_spec.declared.fault.FwFault.TheVariants.{NoCore, NoLife}
use Rattle.psci_fw_laws.specs.psci_fw_spec.declared.fault.FwFault.TheVariants.{NotRunning}
use Rattle.psci_headline.specs.Safe.{core_asked, entered_by, entered_to, made_by, made_for_boot}
use Rattle.psci_headline.specs.Safe.{openings, taken_up}
use Rattle.psci_headline.proofs.Moves.{call_ends}
use Rattle.psci_headline.proofs.Waiting.{AreWaiting, begun, called, fewer, none_waiting, one_more}
use Rattle.psci_headline.proofs.Waiting.{taken_up_by, taking}
use Rattle.psci_headline.proofs.Words.{[], ◌++◌, ◌<◌, ◌==◌, ◌∷◌, ◌≡◌, ◌≤◌, acks, Act, AreTakenUp}
use Rattle.psci_headline.proofs.Words.{arith, arrived, AsksOn, BoardValue, Bool, Call, call}
use Rattle.psci_headline.proofs.Words.{call_fault, change, Code, cond, controller_values, Effect}
use Rattle.psci_headline.proofs.Words.{effect, effect_of, enter_effect, enter_fault, EnteredAt}
use Rattle.psci_headline.proofs.Words.{Enters, enters_or_resumes_by, eqb-false, eqb-true, Event}
use Rattle.psci_headline.proofs.Words.{false, firmware_history, firmware_values, Fw, FwCall}
use Rattle.psci_headline.proofs.Words.{FwExchange, FwFault, FwReply, in_life, IsAllowed, IsLegal}
use Rattle.psci_headline.proofs.Words.{length, List, listed, Made, made_at, MessageValue, nat_tests}
use Rattle.psci_headline.proofs.Words.{None, not, OfCall, OfLife, Opening, Option, option_map}
use Rattle.psci_headline.proofs.Words.{Outcome, outcome_in, Parks, PowerOn, Record, refl, Regs}
use Rattle.psci_headline.proofs.Words.{reply_or, Request, request_of, Rests, Said, Sent, Smc, Some}
use Rattle.psci_headline.proofs.Words.{Start, start_of_life, StopsAtOnce, subst, suc, sym, TakenUp}
use Rattle.psci_headline.proofs.Words.{target, updated, updated_at, Values, ℕ}
use Rattle.psci_fw_laws.proofs.Histories.{legal_allowed, values_after}
use Rattle.psci_board.specs.Board.{IsBoard}
use Rattle.psci_fw_laws.proofs.fw_spec.Changing.{was_asked}
use Rattle.psci_fw_laws.specs.psci_fw_spec.declared.call.FwCall.TheVariants as calls
use Rattle.psci_fw_laws.specs.psci_fw_spec.declared.outcome.Act.TheVariants as acts
use Rattle.psci_fw_laws.specs.psci_fw_spec.declared.reply.FwReply.TheVariants as replies
use Rattle.psci_headline.proofs.Waiting as waiting

-- In a legal history an accepted CPU_ON asks on the core that it named ----------------------------

-- Which core a call named ----------------------------------------------------------------------

-- if a call came down to this, it named the core that was asked on
abbrev pub NamesTarget : BoardValue → FwCall → Effect → Type 0
NamesTarget b call f = (caller : ℕ) (asked : PowerOn) → f ≡ AsksOn caller asked
    → core_asked b call ≡ Some (target asked)

pub names_target : (b : BoardValue) (v : Values) (c : ℕ) (call : FwCall) (reply : FwReply)
    → reply ≡ answer b v c call → NamesTarget b call (effect_of b c call reply)
names_target b v c call reply e caller asked is = grind (arith, nat_tests, was_asked b v c)

-- What a call made -----------------------------------------------------------------------------

-- the opening that an effect made in a life, after so many entries: of a core that was asked on, it
-- is that of the effect
abbrev pub made_in : ℕ → ℕ → Effect → Option Made
made_in n life (AsksOn c asked) = made_at (OfCall n) (target asked) life (Some asked.opening)
made_in n life (Rests c rest m) = made_at (OfCall n) c life rest.opening
made_in n life f = None

-- it is the opening that the call made
pub same_made : (b : BoardValue) (n life : ℕ) (call : FwCall) (f : Effect) → NamesTarget b call f
    → made_by b n life call f ≡ made_in n life f
same_made b n life call f names = grind (arith, nat_tests)

-- Entering ----------------------------------------------------------------------------------------

-- What an answer says of an entry --------------------------------------------------------------

-- A core entered at its opening, as it found it in the life of its start.
record HasEntered (b : BoardValue) (v : Values) (f : Effect) (x : EnteredAt) : Type 0 where
  start : Start
  is : f ≡ Enters x.core start
  of_life : x.life ≡ start.life
  opening : (in_life b start.life v).opening x.core ≡ Some x.opening

-- a core is answered an entry point only where it has that opening
module _ (b : BoardValue) (found after : Values) (c : ℕ) (s : Start) (a k : ℕ) where
  opened_unless : (t : Bool) (o : Option Opening)
      → acts.Enter a k ≡ (cond t stops (outcome_at b found after c s o)).act
      → o ≡ Some (record { address = a; context = k })
  opened_unless t o e = grind (arith, nat_tests)

answered : (act : Act) (m : Option MessageValue) (fault : Option FwFault) (o : Outcome)
    → replies.Out (record { act = act; message = m }) ≡ reply_or fault o → act ≡ o.act
answered act m fault o e = grind (arith, nat_tests)

entered_at : (b : BoardValue) (v : Values) (c : ℕ) (s : Start) (act : Act)
    (m : Option MessageValue) (x : EnteredAt)
    → replies.Out (record { act = act; message = m }) ≡ answer b v c (calls.Enter s)
    → entered_to c s.life act ≡ Some x → HasEntered b v (enter_effect c s act m) x
unfolding answer enter_outcome
entered_at b v c s (acts.Enter a k) m x e is =
    let now : EnteredAt = record {
      core = c;
      life = s.life;
      opening = record { address = a; context = k };
    } in
    let same : now ≡ x = cc in
    let found = in_life b s.life v in
    let act = answered (acts.Enter a k) m (enter_fault b v c s) _ e in
    subst (HasEntered b v (Enters c s)) same (record {
      start = s;
      is = refl;
      of_life = refl;
      opening = grind (arith, nat_tests, opened_unless);
    })
entered_at b v c s act m x e is = absurd (cc)

-- a core that is not told to enter does not
no_entry : (c before : ℕ) (act : Act) (x : EnteredAt) → enters_or_resumes_by act ≡ false
    → entered_to c before act ≡ Some x → ⊥
no_entry c before act x ends is = grind (arith, nat_tests)

has_entered : (b : BoardValue) (v : Values) (before c : ℕ) (call : FwCall) (reply : FwReply)
    (x : EnteredAt) → reply ≡ answer b v c call → entered_by before c call reply ≡ Some x
    → HasEntered b v (effect_of b c call reply) x
has_entered b v before c call reply x e is =
    grind (arith, nat_tests, no_entry, call_ends, entered_at)

-- What an effect leaves ------------------------------------------------------------------------

-- the openings that were made, with those that an effect makes after so many entries
abbrev made_with : BoardValue → ℕ → ℕ → Effect → List Made → List Made
made_with b n life f made =
    listed (made_in n life f) ++ (listed (made_for_boot b life (arrived f)) ++ made)

-- what holds after an effect, if no core entered at an opening
abbrev IsLeft : BoardValue → ℕ → Values → Effect → List Made → List TakenUp → Type 0
IsLeft b n v f made taken =
    AreWaiting (suc n) (change b f v).life (change b f v).opening (made_with b n v.life f made)
    taken

module _ (b : BoardValue) (n : ℕ) (v : Values) (made : List Made) (taken : List TakenUp)
    (are : AreWaiting n v.life v.opening made taken) where
  -- what a core finds that enters, where its life has begun or not
  found_waits : (c : ℕ) (s : Start) (t : Bool) → (s.life == v.life) ≡ t → v.life ≤ s.life
      → AreWaiting n (cond t v (start_of_life b s.life)).life
      (cond t v (start_of_life b s.life)).opening
      (listed (cond t None (made_at (OfLife s.life) 0 s.life
      (Some (record { address = b.boot; context = 0 })))) ++ made) taken
  found_waits c s t is low = grind (arith, nat_tests, begun, eqb-false)

  rested : (c : ℕ) (o : Option Opening)
      → AreWaiting (suc n) v.life (updated v.opening c (option_or o (v.opening c)))
      (listed (made_at (OfCall n) c v.life o) ++ made) taken
  rested c None = grind (arith, nat_tests, fewer, one_more, updated_at)
  rested c (Some o) = called n v.life v.opening made taken are c o

  arrives : (c : ℕ) (s : Start) → v.life ≤ s.life
      → AreWaiting (suc n) (in_life b s.life v).life
      (updated (in_life b s.life v).opening c None)
      (listed (made_for_boot b v.life (Some (record { core = c; start = s }))) ++ made) taken
  arrives c s low =
      let found = found_waits c s (s.life == v.life) refl low in
      waiting.one_more _ _ _ _ _ (waiting.arrived _ _ _ _ _ found c)

  leaves : (f : Effect) → IsAllowed b v f → IsLeft b n v f made taken
  leaves (AsksOn c asked) allowed = rested _ (Some asked.opening)
  leaves (Rests c rest m) allowed = rested c rest.opening
  leaves (Enters c s) allowed = arrives c s allowed.enters.life
  leaves (Parks c s m) allowed = arrives c s allowed.enters.life
  leaves (StopsAtOnce c s) allowed = arrives c s allowed.enters.life
  leaves f allowed = one_more n v.life v.opening made taken are

  -- a core entered at its opening
  takes : (x : EnteredAt) (s : Start) → IsAllowed b v (Enters x.core s) → x.life ≡ s.life
      → (in_life b s.life v).opening x.core ≡ Some x.opening
      → AreWaiting (suc n) (in_life b s.life v).life
      (updated (in_life b s.life v).opening x.core None)
      (made_with b n v.life (Enters x.core s) made)
      (taking x (made_with b n v.life (Enters x.core s) made) ∷ taken)
  takes x s allowed here at =
      grind (arith, nat_tests, eqb-true, found_waits, one_more, taken_up_by, begun)

  -- what holds after an effect, with the exchange that it was
  abbrev AreLeft : Effect → Option EnteredAt → Type 0
  AreLeft f o =
      AreWaiting (suc n) (change b f v).life (change b f v).opening (made_with b n v.life f made)
      (listed (option_map (λ x. taking x (made_with b n v.life f made)) o) ++ taken)

  stays : (f : Effect) (o : Option EnteredAt) → IsAllowed b v f
      → ((x : EnteredAt) → o ≡ Some x → HasEntered b v f x) → AreLeft f o
  stays f None allowed has = leaves f allowed
  stays f (Some x) allowed has =
      let is = has x refl in
      subst (λ g. AreLeft g (Some x)) (sym is.is)
      (takes x is.start (subst (IsAllowed b v) is.is allowed) is.of_life is.opening)

-- Histories ------------------------------------------------------------------------------------

-- what holds after a history
abbrev AreAfter : BoardValue → List FwExchange → Values → Type 0
AreAfter b h v = AreWaiting (length h) v.life v.opening (openings b h) (taken_up b h)

first_after : (b : BoardValue) → AreAfter b [] (values_of b [])
unfolding values_of openings taken_up
first_after b = none_waiting b

more_after : (b : BoardValue) (e : FwExchange) (h : List FwExchange) → IsBoard b
    → IsLegal b (e ∷ h) → AreAfter b h (values_of b h)
    → AreAfter b (e ∷ h) (change b (effect b e) (values_of b h))
unfolding values_of openings taken_up
more_after b e h board legal are =
    let v : Values = values_of b h in
    let w : Values = change b (effect b e) v in
    let to : Option EnteredAt = entered_by v.life e.core e.call e.reply in
    let before : List Made =
    listed (made_for_boot b v.life (arrived (effect b e))) ++ openings b h in
    let names = names_target b v e.core e.call e.reply legal.0 in
    subst (λ (made : Option Made). AreWaiting (suc (length h)) w.life w.opening
    (listed made ++ before)
    (listed (option_map (λ x. taking x (listed made ++ before)) to) ++ taken_up b h))
    (sym (same_made b (length h) v.life e.call (effect b e) names))
    (stays b (length h) v (openings b h) (taken_up b h) are (effect b e) to
    (legal_allowed b e h board legal)
    (λ x is. has_entered b v v.life e.core e.call e.reply x legal.0 is))

are_waiting : (b : BoardValue) (h : List FwExchange) → IsBoard b → IsLegal b h
    → AreAfter b h (values_of b h)
are_waiting b [] board legal = first_after b
are_waiting b (e ∷ h) board legal =
    subst (AreAfter b (e ∷ h)) (sym (values_after b e h))
    (more_after b e h board legal (are_waiting b h board legal.1))

pub are_taken_up : (b : BoardValue) (h : List FwExchange) → IsBoard b → IsLegal b h
    → AreTakenUp b h
are_taken_up b h board legal =
    let are = are_waiting b h board legal in
    record { each = are.each; once = are.once }

-- What a record says that a call returned is what its function answers, in a life -----------------

-- A core is answered this code to its request, in a life.
pub record IsReturned (b : BoardValue) (v : Values) (d : ℕ) (r : Request) (code : Code)
    : Type 0 where
  pub begun : 0 < v.life
  pub by : acts.Return code ≡ (function_outcome b v d r).act

by_outcome : (b : BoardValue) (v : Values) (d : ℕ) (r : Request) (code : Code) (o : Outcome)
    → 0 < v.life → o.act ≡ acts.Return code → o ≡ outcome_of b v d r → IsReturned b v d r code
unfolding outcome_of
by_outcome b v d r code o begun act is = grind (arith, nat_tests)

-- a call that is no fault is made in a life
some_life : (life : ℕ) (s t u : Bool) → (life == 0) ≡ t
    → cond (not s) (Some NoCore) (cond t (Some NoLife) (cond u None (Some NotRunning))) ≡ None
    → 0 < life
some_life life s t u is e = grind (arith, nat_tests)

by_fault : (b : BoardValue) (v : Values) (d : ℕ) (r : Request) (code : Code) (o : Outcome)
    (f : Option FwFault) → call_fault b v d ≡ f → o.act ≡ acts.Return code
    → replies.Out o ≡ reply_or f (outcome_of b v d r) → IsReturned b v d r code
by_fault b v d r code o f none act e = grind (arith, nat_tests, by_outcome, some_life)

by_answer : (b : BoardValue) (v : Values) (d : ℕ) (regs : Regs) (code : Code) (o : Outcome)
    → o.act ≡ acts.Return code → replies.Out o ≡ answer b v d (Smc regs)
    → IsReturned b v d (request_of regs) code
unfolding answer
by_answer b v d regs code o act e = grind (arith, nat_tests, by_fault)

-- the history after a record, whose event says this
abbrev pub Extended : BoardValue → List Record → Event → Said → Type 0
Extended b past event said =
    IsLegal b (call (controller_values b past) (acks past) event said ++ firmware_history b past)

pub returned : (b : BoardValue) (past : List Record) (d : ℕ) (regs : Regs) (code : Code)
    (m : Option Sent) → Extended b past (Call d regs) (Fw (acts.Return code) m)
    → IsReturned b (firmware_values b past) d (request_of regs) code
returned b past d regs code m valid =
    by_answer b (firmware_values b past) d regs code (outcome_in (acts.Return code) m) refl valid.0
