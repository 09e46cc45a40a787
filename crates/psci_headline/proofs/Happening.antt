-- What is legal to say of an event, by what it asks. So what happens to a core happens at its
-- place, and what sends a message is a call or an entry.
use Rattle.std.specs.Prelude.{List}
use Rattle.psci_headline.proofs.Words.{◌<◌, ◌∙◌, ◌≡◌, Absent, acks, AckValue, ap, arith, BoardValue}
use Rattle.psci_headline.proofs.Words.{Bool, Call, cond_both, controller_values, cores, Deliver}
use Rattle.psci_headline.proofs.Words.{Enter, Event, false, indexed, last_start, ltb-true}
use Rattle.psci_headline.proofs.Words.{MessageValue, nat_tests, None, place, Record, refl, Regs}
use Rattle.psci_headline.proofs.Words.{Reset, Running, Said, said_by, sent, sent_in, Some, Start}
use Rattle.psci_headline.proofs.Words.{Started, sym, Take, true, Wake, ℕ}
use Rattle.psci_world_spec.specs.declared.said.Said.TheVariants.{Ignored}
use Rattle.psci_world_spec.specs.Legal.{asked_controller, asked_firmware, legal}
use Rattle.psci_ctl_spec.specs.declared.reply.CtlReply.{CtlReply}
use Rattle.psci_fw_laws.specs.psci_fw_spec.Answer.{answer}
use Rattle.psci_ctl_spec.specs.declared.call.CtlCall.TheVariants as asked
use Rattle.psci_fw_laws.specs.psci_fw_spec.declared.call.FwCall.TheVariants as calls

-- What is legal to say -------------------------------------------------------------------------

-- What is so of an event with each answer to it, and with what is said where nothing is asked.
pub record OfAnswers (b : BoardValue) (past : List Record) (P : Event → Said → Type 0) : Type 0
  where
    pub absent : (event : Event) → P event Absent
    pub ignored : (event : Event) → P event Ignored
    pub call : (c : ℕ) (regs : Regs) → c < cores b → place b past c ≡ Running
        → P (Call c regs) (asked_firmware b past c (calls.Smc regs))
    pub enter : (c : ℕ) (s : Start) → c < cores b → place b past c ≡ Started
        → last_start (controller_values b past) c ≡ Some s
        → P (Enter c) (asked_firmware b past c (calls.Enter s))
    pub wake : (c : ℕ) → c < cores b → let n = (controller_values b past).starts c in
        P (Wake c) (asked_controller b past (asked.Wake (record { number = c }) n))
    pub reset : (c : ℕ) → c < cores b
        → P (Reset c) (asked_controller b past (asked.Reset (record { number = c })))
    pub deliver : (k : ℕ) (m : MessageValue) → indexed (sent past) k ≡ Some m
        → P (Deliver k) (asked_controller b past (asked.Deliver m))
    pub take : (k : ℕ) (a : AckValue) → indexed (acks past) k ≡ Some a
        → P (Take k) (asked_firmware b past 0 (calls.Take a))

-- so it is so of each event with what is legal to say of it
module _ (b : BoardValue) (past : List Record) (P : Event → Said → Type 0)
    (is : OfAnswers b past P) where
  pub of_event : (event : Event) → P event (legal b past event)
  unfolding legal
  of_event event = grind (arith, nat_tests, cond_both, ltb-true)

-- Places ---------------------------------------------------------------------------------------

-- A core that called.
pub record IsCalled (b : BoardValue) (past : List Record) (c : ℕ) : Type 0 where
  pub core : c < cores b
  pub place : place b past c ≡ Running

-- A core that entered.
pub record IsEntered (b : BoardValue) (past : List Record) (c : ℕ) : Type 0 where
  pub core : c < cores b
  pub place : place b past c ≡ Started
  pub start : Start
  pub last : last_start (controller_values b past) c ≡ Some start

-- what is so of the core of an event
abbrev pub Happens : BoardValue → List Record → Event → Type 0
Happens b past (Call c regs) = IsCalled b past c
Happens b past (Enter c) = IsEntered b past c
Happens b past (Wake c) = c < cores b
Happens b past (Reset c) = c < cores b
Happens b past event = Unit {0}

-- whether this is said of an event that is neither absent nor ignored
abbrev pub is_word : Said → Bool
is_word Absent = false
is_word Ignored = false
is_word s = true

pub happens : (b : BoardValue) (past : List Record) (event : Event) (s : Said)
    → s ≡ legal b past event → is_word s ≡ true → Happens b past event
happens b past event s e some =
    of_event b past (λ x said. is_word said ≡ true → Happens b past x) (record {
      absent = λ x no. absurd (cc);
      ignored = λ x no. absurd (cc);
      call = λ c regs on at is. record { core = on; place = at };
      enter = λ c start on at last is. grind (arith, nat_tests);
      wake = λ c on is. on;
      reset = λ c on is. on;
      deliver = λ k m at is. tt;
      take = λ k a at is. tt;
    }) event (ap is_word (sym e) ∙ some)

-- Events that send nothing ---------------------------------------------------------------------

none_sent : (n : ℕ) (r : CtlReply) → sent_in (said_by n r) ≡ None
none_sent n r = grind (arith, nat_tests)

-- whether the power controller or an acknowledgement is what the event is about
abbrev pub is_quiet : Event → Bool
is_quiet (Call c regs) = false
is_quiet (Enter c) = false
is_quiet event = true

pub sends_nothing : (b : BoardValue) (past : List Record) (event : Event) → is_quiet event ≡ true
    → sent_in (legal b past event) ≡ None
unfolding answer
sends_nothing b past =
    of_event b past (λ x said. is_quiet x ≡ true → sent_in said ≡ None) (record {
      absent = λ x q. refl;
      ignored = λ x q. refl;
      call = λ c regs on at q. absurd (cc);
      enter = λ c start on at last q. absurd (cc);
      wake = λ c on q. none_sent _ _;
      reset = λ c on q. none_sent _ _;
      deliver = λ k m at q. none_sent _ _;
      take = λ k a at q. refl;
    })
