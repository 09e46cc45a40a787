-- A platform and its histories, for worked examples: four cores with MPIDRs in two fields and with
-- gaps, of which one of the second cluster boots.
use Rattle.std.specs.Ordering.{int_eq}
use Rattle.psci_headline.specs.Safe.{claims, live_claims, openings, taken_up, was_powered_down}
use Rattle.psci_headline.specs.Laws.{was_so_deep}
use Rattle.psci_headline.specs.psci_abi.declared.request.Request.TheVariants as requests
use Rattle.psci_headline.specs.psci_fw_spec.Effects.{mode_effect, return_effect, sent_effect}
use Rattle.psci_headline.specs.psci_fw_spec.Effects.{stop_effect}
use Rattle.psci_headline.specs.psci_fw_spec.PowerCalls.{mode_of}
use Rattle.psci_headline.specs.psci_fw_spec.declared.outcome.Act.TheVariants as acts
use Rattle.psci_headline.proofs.fw_spec.Endings.{function_ends, outcome_ends}
use Rattle.psci_headline.proofs.world_spec.Scripts as scripts
use Rattle.psci_headline.proofs.world_spec.Scripts.{board, call, off, tall as tall_board}
use Rattle.psci_platform.specs.declared.class.Class.TheVariants.{Retention, Standby}
use Rattle.psci_platform.proofs.Machines.{all_functions, calling, checking, describes, down}
use Rattle.psci_platform.proofs.Machines.{level, retained, row}
use Rattle.psci_platform_safe.specs.Asked.{numbered, run_on}
use Rattle.psci_platform_safe.proofs.Words.{◌++◌, ◌∙◌, ◌∷◌, ◌≡◌, [], Act, ap, AsksOn, BoardValue}
use Rattle.psci_platform_safe.proofs.Words.{Bool, Code, cond, Deliver, DescriptionValue, Effect}
use Rattle.psci_platform_safe.proofs.Words.{Enter, Event, false, function_effect, GoesOn}
use Rattle.psci_platform_safe.proofs.Words.{legal_for, List, MessageValue, None, Option, Outcome}
use Rattle.psci_platform_safe.proofs.Words.{outcome_of, PlatformValue, PowerOn, Record, refl}
use Rattle.psci_platform_safe.proofs.Words.{Request, Rest, rest_of, Rests, Said, Some, success}
use Rattle.psci_platform_safe.proofs.Words.{SuspendMode, sym, system_reset, Take, true, Values}
use Rattle.psci_platform_safe.proofs.Words.{ℕ}

-- What a call that asked a core on, or that stopped its caller, was asked and answered ------------

-- What opens nothing ----------------------------------------------------------------------------

-- an effect that can open an entry point
abbrev pub opens : Effect → Bool
opens (AsksOn c asked) = true
opens (Rests c rest m) = true
opens f = false

pub opens_none : (f g : Effect) → f ≡ g → opens g ≡ true → opens f ≡ false → ⊥
opens_none f g same one none =
    let no : false ≡ true = sym none ∙ ap opens same ∙ one in absurd (cc)

mode_opens : (c : ℕ) (t : Bool) (o : Option SuspendMode)
    → opens (cond t (mode_effect c o) (GoesOn c)) ≡ false
mode_opens c true (Some mode) = refl
mode_opens c t o = refl

return_opens : (c : ℕ) (r : Request) (code : Code) → opens (return_effect c r code) ≡ false
return_opens c (requests.SetSuspendMode number) code =
    mode_opens c (int_eq code.0 success.0) (mode_of number)
return_opens c r code = refl

-- Asked on --------------------------------------------------------------------------------------

stop_asks : (b : BoardValue) (c d : ℕ) (asked : PowerOn) (r : Request) (m : MessageValue)
    → stop_effect b c r m ≡ AsksOn d asked → ⊥
stop_asks b c d asked requests.SystemOff m e = absurd (cc)
stop_asks b c d asked r m e = absurd (cc)

-- A call that asked a core on is a CPU_ON with the opening as its arguments.
pub record IsCpuOn (r : Request) (act : Act) (message : Option MessageValue) (asked : PowerOn)
    : Type 0 where
  pub word : ℕ
  pub code : Code
  pub asks : r ≡ requests.CpuOn word asked.opening.address asked.opening.context
  pub returns : act ≡ acts.Return code
  pub sends : message ≡ Some asked.message

sent_asks : (c d : ℕ) (asked : PowerOn) (r : Request) (code : Code) (m : MessageValue)
    → sent_effect c r m ≡ AsksOn d asked → IsCpuOn r (acts.Return code) (Some m) asked
sent_asks c d asked (requests.CpuOn word entry_point context) code m e =
    let same : record {
      message = m;
      opening = record { address = entry_point; context = context };
    } ≡ asked = cc in
    record {
      word = word;
      code = code;
      asks = ap (λ (x : PowerOn). requests.CpuOn word x.opening.address x.opening.context) same;
      returns = refl;
      sends = ap (λ (x : PowerOn). Some x.message) same;
    }
sent_asks c d asked r code m e = absurd (cc)

pub asks_on : (b : BoardValue) (c d : ℕ) (asked : PowerOn) (r : Request) (act : Act)
    (message : Option MessageValue) → function_effect b c r act message ≡ AsksOn d asked
    → IsCpuOn r act message asked
asks_on b c d asked r acts.Stop (Some m) e = absurd (stop_asks b c d asked r m e)
asks_on b c d asked r (acts.Return code) (Some m) e = sent_asks c d asked r code m e
asks_on b c d asked r (acts.Return code) None e =
    absurd (opens_none _ _ e refl (return_opens c r code))
asks_on b c d asked r act message e = absurd (cc)

-- a function that returned and sent something returned SUCCESS
abbrev Succeeds : Outcome → Type 0
Succeeds o = (code : Code) (m : MessageValue) → o.act ≡ acts.Return code → o.message ≡ Some m
    → code ≡ success

pub succeeds : (b : BoardValue) (v : Values) (c : ℕ) (r : Request) → Succeeds (outcome_of b v c r)
succeeds b v c r =
    outcome_ends Succeeds b v c r
    (λ halts code m act message. absurd (cc))
    (λ awake. function_ends Succeeds b v c r
    (λ code other m act message. absurd (cc))
    (λ m code other act message. absurd (cc))
    (λ word entry_point context m is code other act message. cc))

-- Stopped ---------------------------------------------------------------------------------------

sent_rests : (c d : ℕ) (rest : Rest) (m : MessageValue) (r : Request) (own : MessageValue)
    → sent_effect c r own ≡ Rests d rest m → ⊥
sent_rests c d rest m (requests.CpuOn word entry_point context) own e = absurd (cc)
sent_rests c d rest m r own e = absurd (cc)

-- A call that stopped its caller to be woken, or to go off.
pub record IsStop (b : BoardValue) (c d : ℕ) (rest : Rest) (m : MessageValue) (r : Request)
    (act : Act) (message : Option MessageValue) : Type 0 where
  pub caller : c ≡ d
  pub rests : rest_of b r ≡ rest
  pub stops : act ≡ acts.Stop
  pub sends : message ≡ Some m

stop_rests : (b : BoardValue) (c d : ℕ) (rest : Rest) (m : MessageValue) (r : Request)
    (own : MessageValue) → stop_effect b c r own ≡ Rests d rest m
    → IsStop b c d rest m r acts.Stop (Some own)
stop_rests b c d rest m requests.SystemOff own e = absurd (cc)
stop_rests b c d rest m requests.SystemReset own e = absurd (cc)
stop_rests b c d rest m (requests.SystemReset2 reset_type cookie) own e = absurd (cc)
stop_rests b c d rest m r own e = record { caller = cc; rests = cc; stops = refl; sends = cc }

pub rests : (b : BoardValue) (c d : ℕ) (rest : Rest) (m : MessageValue) (r : Request) (act : Act)
    (message : Option MessageValue) → function_effect b c r act message ≡ Rests d rest m
    → IsStop b c d rest m r act message
rests b c d rest m r acts.Stop (Some own) e = stop_rests b c d rest m r own e
rests b c d rest m r (acts.Return code) (Some own) e = absurd (sent_rests c d rest m r own e)
rests b c d rest m r (acts.Return code) None e =
    absurd (opens_none _ _ e refl (return_opens c r code))
rests b c d rest m r act message e = absurd (cc)

-- Histories ---------------------------------------------------------------------------------------

-- what an example unfolds to compute what is said on a platform, and the sentences
unfoldable pub computing : Unit {0}
unfolding scripts.computing calling checking numbered run_on claims live_claims was_powered_down
    openings taken_up was_so_deep
computing = tt

-- two clusters of two cores: words for power-down of the core and for retention, alone and with the
-- cluster, which has two states in retention, of which words ask in OS-initiated mode alone
abbrev pub description : DescriptionValue
description = record (describes (0 ∷ 1 ∷ 0x200 ∷ 0x203 ∷ []) 2
    (row 0x00000001 (1 ∷ 0 ∷ 0 ∷ 0 ∷ []) ∷ row 0x00010002 (2 ∷ 0 ∷ 0 ∷ 0 ∷ [])
    ∷ row 0x01010012 (2 ∷ 1 ∷ 0 ∷ 0 ∷ []) ∷ row 0x01010022 (2 ∷ 2 ∷ 0 ∷ 0 ∷ [])
    ∷ row 0x01010032 (2 ∷ 3 ∷ 0 ∷ 0 ∷ []) ∷ [])) {
      classes = level (Retention ∷ []) 14 ∷ level (Retention ∷ Retention ∷ []) 13 ∷ down ∷ down
          ∷ [];
      system = 2 ∷ 3 ∷ 1 ∷ 0 ∷ [];
      functions = all_functions;
    }

-- the core with MPIDR 0x200 boots: the firmware has 0 and 1 for the cores 0x200 and 0x203, and 2
-- and 3 for the cores 0 and 1
abbrev pub two : PlatformValue
two = record {
  description = description;
  board = board;
  boot = 0x200;
  place = 2;
  ready = None;
}

-- two groups of two clusters of one core, whose MPIDRs fall in the order of the tree: words for
-- standby, retention and power-down of the core, and for two states or one of each domain above
abbrev tall_description : DescriptionValue
tall_description = record (describes (0x10100 ∷ 0x10000 ∷ 0x300 ∷ 0x100 ∷ []) 3
    (row 0x00000001 (1 ∷ 0 ∷ 0 ∷ 0 ∷ []) ∷ row 0x00000002 (2 ∷ 0 ∷ 0 ∷ 0 ∷ [])
    ∷ row 0x00010003 (3 ∷ 0 ∷ 0 ∷ 0 ∷ []) ∷ row 0x01000012 (2 ∷ 1 ∷ 0 ∷ 0 ∷ [])
    ∷ row 0x01010013 (3 ∷ 1 ∷ 0 ∷ 0 ∷ []) ∷ row 0x01010023 (3 ∷ 2 ∷ 0 ∷ 0 ∷ [])
    ∷ row 0x02010113 (3 ∷ 1 ∷ 1 ∷ 0 ∷ []) ∷ row 0x02010223 (3 ∷ 2 ∷ 2 ∷ 0 ∷ [])
    ∷ row 0x03001112 (2 ∷ 1 ∷ 1 ∷ 1 ∷ []) ∷ row 0x03012223 (3 ∷ 2 ∷ 2 ∷ 2 ∷ []) ∷ [])) {
      classes = level (Standby ∷ Retention ∷ []) 13 ∷ retained ∷ retained ∷ retained ∷ [];
      system = 3 ∷ 2 ∷ 2 ∷ 2 ∷ [];
      functions = all_functions;
    }

-- the core with MPIDR 0x100 boots, the last one of the tree: the firmware has 0 for it, 1 for
-- 0x300,
-- 2 for 0x10000 and 3 for 0x10100
abbrev pub tall : PlatformValue
tall = record {
  description = tall_description;
  board = tall_board;
  boot = 0x100;
  place = 3;
  ready = None;
}

-- the boot core asks core 1 on
abbrev pub on_1 : Event
on_1 = call 0x200 0xc4000003 1 0x40001000 7

-- a core asks for the status, or for the hardware state, of a word at a level
abbrev pub status_of : ℕ → ℕ → ℕ → Event
status_of caller word level = call caller 0xc4000004 word level 0

abbrev pub state_of : ℕ → ℕ → ℕ → Event
state_of caller word level = call caller 0xc400000d word level 0

-- a core is suspended by a word
abbrev pub suspend : ℕ → ℕ → Event
suspend caller word = call caller 0xc4000001 word 0x40004000 9

-- the records of these events in turn
abbrev pub after : List Event → List Record
after events = run_on two [] events

-- those on the platform of three levels
abbrev pub tall_after : List Event → List Record
tall_after events = run_on tall [] events

-- and of which this was said of one more, legal or not
abbrev pub says : List Record → Event → Said → List Record
says past event said = record { event = event; said = said } ∷ past

-- the record of an event after these, of which that is said which is legal
abbrev pub told : PlatformValue → List Record → Event → Record
told p past event = record { event = event; said = legal_for p past event }

-- core 1 is on
abbrev pub core_1_on : List Event
core_1_on = Enter 0x200 ∷ on_1 ∷ Deliver 0 ∷ Enter 1 ∷ []

-- core 1 goes off, is powered down, and the firmware is told
abbrev pub core_1_off : List Event
core_1_off = Enter 0x200 ∷ on_1 ∷ Deliver 0 ∷ Enter 1 ∷ off 1 ∷ Deliver 1 ∷ Take 1 ∷ []

-- on the platform of three levels the far core is on
abbrev pub tall_on : List Event
tall_on =
    Enter 0x100 ∷ call 0x100 0xc4000003 0x10100 0x40001000 7 ∷ Deliver 0 ∷ Enter 0x10100 ∷ []

-- in life 2 the boot core has entered
abbrev pub life_2 : List Event
life_2 = Enter 0x200 ∷ system_reset 0x200 ∷ Deliver 0 ∷ Enter 0x200 ∷ []

-- and on the platform of three levels
abbrev pub tall_in_life_2 : List Event
tall_in_life_2 = Enter 0x100 ∷ system_reset 0x100 ∷ Deliver 0 ∷ Enter 0x100 ∷ []

-- core 1 is on in OS-initiated mode, and in life 2
abbrev pub on_by_the_system : List Event
on_by_the_system = Enter 0x200 ∷ call 0x200 0x8400000f 1 0 0 ∷ on_1 ∷ Deliver 0 ∷ Enter 1 ∷ []

abbrev pub on_in_life_2 : List Event
on_in_life_2 = life_2 ++ on_1 ∷ Deliver 1 ∷ Enter 1 ∷ []
