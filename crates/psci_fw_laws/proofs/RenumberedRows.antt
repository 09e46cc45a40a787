-- Worked examples of renumberings: two cores of a cluster are swapped, or two clusters with as many
-- cores. Values of a halting life 2 in OS-initiated mode, messages, calls, replies and histories of
-- the other numbers; and what is none of these.
use Rattle.std.proofs.Common.{◌&&◌, ◌*◌, ◌+◌, ◌==◌, ◌||◌, ◌∷◌, ◌≡◌, [], arith, false}
use Rattle.std.proofs.Common.{if◌then◌else◌, inl, inr, List, map, None, Option, refl, Some, suc}
use Rattle.std.proofs.Common.{true, zero, ℕ}
use Rattle.psci_abi.specs.declared.registers.Regs.{Regs}
use Rattle.psci_abi.specs.declared.request.Request.{Request}
use Rattle.psci_abi.specs.declared.request.Request.TheVariants.{AffinityInfo, CpuOff, CpuOn}
use Rattle.psci_abi.specs.declared.request.Request.TheVariants.{NodeHwState, SetSuspendMode}
use Rattle.psci_abi.specs.declared.request.Request.TheVariants.{Version}
use Rattle.psci_board.specs.Board.{BoardValue, core_of, node_of, up}
use Rattle.psci_messages.specs.Message.{AckValue, MessageValue}
use Rattle.psci_messages.specs.Slots.{OfCore, OfSystem, Slot}
use Rattle.psci_messages.specs.declared.kind.Kind.TheVariants.{Down, Off}
use Rattle.psci_messages.specs.declared.start.Cause.TheVariants.{Wake}
use Rattle.psci_messages.specs.declared.start.Start as starts
use Rattle.psci_messages.specs.declared.taken.Taken.TheVariants.{Used}
use Rattle.psci_fw_spec.specs.Effects.{FwExchange}
use Rattle.psci_fw_spec.specs.Phases as phases
use Rattle.psci_fw_spec.specs.Values.{Values}
use Rattle.psci_fw_spec.specs.declared.call.FwCall.TheVariants.{Enter, Smc, Take}
use Rattle.psci_fw_spec.specs.declared.fault.FwFault.TheVariants.{NotRunning, OldStart}
use Rattle.psci_fw_spec.specs.declared.mode.SuspendMode.TheVariants.{OsInitiated}
use Rattle.psci_fw_spec.specs.declared.outcome.Act.TheVariants as acts
use Rattle.psci_fw_spec.specs.declared.reply.FwReply.{FwReply}
use Rattle.psci_fw_spec.specs.declared.reply.FwReply.TheVariants.{Fault, Out, Taken}
use Rattle.psci_fw_spec.specs.declared.status.Status.TheVariants as statuses
use Rattle.psci_fw_laws.specs.Renumbered.{acknowledgement_by, AreSiblings, AreTwins, AsksBy}
use Rattle.psci_fw_laws.specs.Renumbered.{CallsBy, HappenedBy, IsRenumbering, message_by}
use Rattle.psci_fw_laws.specs.Renumbered.{node_by, reply_by, slot_by, SparesBoot, swap_clusters}
use Rattle.psci_fw_laws.specs.Renumbered.{swap_cores, values_by}
use Rattle.psci_abi.proofs.Tables.{◌⇒◌, Gives}
use Rattle.psci_fw_laws.proofs.Claiming.{board, message, part}

-- Boards ------------------------------------------------------------------------------------------

-- cores 0 to 2 below the system
abbrev one_level : BoardValue
one_level = record board { levels = (3 ∷ []) ∷ [] }

-- core 0 in a cluster by itself, cores 1 to 3 in another
abbrev two_levels : BoardValue
two_levels = record board { levels = (1 ∷ 3 ∷ []) ∷ (2 ∷ []) ∷ [] }

-- cores 0 and 1, cores 2 and 3, and core 4 by itself
abbrev clusters : BoardValue
clusters = record board { levels = (2 ∷ 2 ∷ 1 ∷ []) ∷ (3 ∷ []) ∷ [] }

-- two groups of two clusters of one core
abbrev tall : BoardValue
tall = record board { levels = (1 ∷ 1 ∷ 1 ∷ 1 ∷ []) ∷ (2 ∷ 2 ∷ []) ∷ (2 ∷ []) ∷ [] }

siblings : AreSiblings one_level 1 2 × AreSiblings two_levels 1 3
unfolding up
siblings = omega arith

-- cores of two clusters are none, nor is one that the board does not have
no_siblings : (AreSiblings two_levels 0 1 → ⊥) × (AreSiblings one_level 3 1 → ⊥)
    × (AreSiblings one_level 1 3 → ⊥)
unfolding up
no_siblings = search arith

twins : AreTwins clusters 0 1 × AreTwins tall 2 3
twins = (
  record { first = omega arith; second = omega arith; cores = refl; parent = refl },
  record { first = omega arith; second = omega arith; cores = refl; parent = refl },
)

-- clusters of two groups are none, nor is one with fewer cores, or that the board does not have
no_twins : (AreTwins tall 1 2 → ⊥) × (AreTwins clusters 1 2 → ⊥) × (AreTwins clusters 3 0 → ⊥)
    × (AreTwins clusters 0 3 → ⊥)
no_twins = search arith

-- Renumberings ------------------------------------------------------------------------------------

-- the places of a level
places : Gives (λ (x : (ℕ → ℕ → ℕ) × ℕ). map (x.0 x.1) (0 ∷ 1 ∷ 2 ∷ 3 ∷ 4 ∷ []))
    -- two cores have each other's number, and clusters stay
    ((swap_cores 1 3, 0) ⇒ (0 ∷ 3 ∷ 2 ∷ 1 ∷ 4 ∷ [])
    ∷ (swap_cores 1 3, 1) ⇒ (0 ∷ 1 ∷ 2 ∷ 3 ∷ 4 ∷ [])
    -- each core of a cluster has the number of the one at the same place in the other cluster, and
    -- groups stay
    ∷ (swap_clusters clusters 0 1, 0) ⇒ (2 ∷ 3 ∷ 0 ∷ 1 ∷ 4 ∷ [])
    ∷ (swap_clusters clusters 0 1, 1) ⇒ (1 ∷ 0 ∷ 2 ∷ 3 ∷ 4 ∷ [])
    ∷ (swap_clusters tall 2 3, 0) ⇒ (0 ∷ 1 ∷ 3 ∷ 2 ∷ 4 ∷ [])
    ∷ (swap_clusters tall 2 3, 2) ⇒ (0 ∷ 1 ∷ 2 ∷ 3 ∷ 4 ∷ []) ∷ [])
places = refl

-- three cores in turn are not their own inverse
abbrev in_turn : ℕ → ℕ → ℕ
in_turn zero c = if c == 0 then 1 else (if c == 1 then 2 else (if c == 2 then 0 else c))
in_turn (suc level) place = place

no_renumberings : (IsRenumbering one_level in_turn → ⊥)
    -- a core becomes one that the board does not have; two cores are swapped, and not their
    -- clusters
    × (IsRenumbering one_level (swap_cores 2 3) → ⊥)
    × (IsRenumbering two_levels (swap_cores 0 1) → ⊥)
unfolding up
no_renumberings = (
  λ is. omega (arith, is.back 0 0),
  λ is. let no : false ≡ true = is.inside 0 2 in cc,
  λ is. omega (arith, is.above 1 0),
)

-- Messages, calls and replies ---------------------------------------------------------------------

-- two cores of a cluster are swapped
abbrev s : ℕ → ℕ → ℕ
s = swap_cores 1 3

abbrev down : ℕ → MessageValue
down c = message Down c 2 5 (part 0 3 5 ∷ part 1 2 9 ∷ [])

abbrev ack : ℕ → AckValue
ack c = record {
  kind = Down;
  core = record { number = c };
  life = 2;
  number = 5;
  applied = 1;
  stale = true;
}

messages_moved : Gives (message_by s)
    (down 3 ⇒ down 1 ∷ message Off 1 2 6 [] ⇒ message Off 3 2 6 [] ∷ down 2 ⇒ down 2 ∷ [])
messages_moved = refl

nodes_moved : Gives (node_by (swap_clusters clusters 0 1))
    (record { level = 0; place = 3 } ⇒ record { level = 0; place = 1 }
    ∷ record { level = 1; place = 1 } ⇒ record { level = 1; place = 0 }
    ∷ record { level = 2; place = 0 } ⇒ record { level = 2; place = 0 } ∷ [])
nodes_moved = refl

acknowledgement_moved : acknowledgement_by s (ack 3) ≡ ack 1
acknowledgement_moved = refl

each_slot : Gives (slot_by s) (OfCore 1 ⇒ OfCore 3 ∷ OfCore 2 ⇒ OfCore 2 ∷ OfSystem ⇒ OfSystem ∷ [])
each_slot = refl

-- addresses and contexts are no numbers of cores
abbrev stop : ℕ → FwReply
stop c = Out (record { act = acts.Stop; message = Some (down c) })

abbrev entry : FwReply
entry = Out (record { act = acts.Enter 1 3; message = None })

replies_moved : Gives (reply_by s)
    (stop 1 ⇒ stop 3 ∷ entry ⇒ entry ∷ Taken Used ⇒ Taken Used ∷ Fault OldStart ⇒ Fault OldStart
    ∷ [])
replies_moved = refl

abbrev registers : ℕ → ℕ → Regs
registers word target = record { x0 = word; x1 = target; x2 = 0x40001000; x3 = 7 }

abbrev start : ℕ → starts.Start
start number = record { life = 2; number = number; cause = Wake }

calls_moved :
    -- CPU_ON of core 1 asks what CPU_ON of core 3 asked
    CallsBy two_levels s (Smc (registers 0xc4000003 0x102)) (Smc (registers 0xc4000003 0x100))
    × CallsBy two_levels s (Take (ack 3)) (Take (ack 1))
    × CallsBy two_levels s (Enter (start 3)) (Enter (start 3))
unfolding core_of
calls_moved = ((0x100, refl, refl), refl, refl)

-- of the same core, by another start, and an entry in place of a call
other_calls : (CallsBy two_levels s (Take (ack 3)) (Take (ack 3)) → ⊥)
    × (CallsBy two_levels s (Enter (start 1)) (Enter (start 3)) → ⊥)
    × (CallsBy two_levels s (Smc (registers 0x84000002 0)) (Enter (start 1)) → ⊥)
other_calls = search arith

abbrev Asks : Request → Request → Type 0
Asks r q = AsksBy two_levels s r q

asked : Asks (CpuOn 0x100 64 7) (CpuOn 0x102 64 7)
    -- a word that names no core is told as itself
    × Asks (CpuOn 0x103 64 7) (CpuOn 0x103 64 7)
    -- the status of a core is asked of the other one, that of a cluster of the same one
    × Asks (AffinityInfo 0 0x102) (AffinityInfo 0 0x100)
    × Asks (AffinityInfo 1 0x102) (AffinityInfo 1 0x102)
    × Asks (NodeHwState 0 0x101) (NodeHwState 0 0x101)
    -- and where two clusters are swapped, of the other cluster
    × AsksBy clusters (swap_clusters clusters 0 1) (AffinityInfo 1 0x101) (AffinityInfo 1 0x001)
    × Asks CpuOff CpuOff
unfolding core_of node_of
asked = (
  (0x102, refl, refl),
  (0x103, refl, refl),
  (0x100, refl, refl),
  (0x102, refl, refl),
  (0x101, refl, refl),
  (0x001, refl, refl),
  refl,
)

-- another function, mode, entry point, context id and level
other_requests : (Asks CpuOff Version → ⊥)
    × (Asks (SetSuspendMode 1) (SetSuspendMode 3) → ⊥)
    × (Asks (CpuOn 0x100 64 7) (CpuOn 0x102 68 7) → ⊥)
    × (Asks (CpuOn 0x100 64 7) (CpuOn 0x102 64 9) → ⊥)
    × (Asks (AffinityInfo 0 0x100) (AffinityInfo 1 0x102) → ⊥)
other_requests = search arith

-- an entry in the present life, also with the boot core renumbered; one that begins a life, where
-- it is not; an acknowledgement
sparing : SparesBoot (swap_cores 0 1) 2 (Enter (start 3)) × SparesBoot s 1 (Enter (start 1))
    × SparesBoot (swap_cores 0 1) 1 (Take (ack 0))
sparing = (inl refl, inr refl, tt)

-- another boot core begins a life, and an entry in a life that is over
not_sparing : (SparesBoot (swap_cores 0 1) 1 (Enter (start 1)) → ⊥)
    × (SparesBoot (swap_cores 0 1) 3 (Enter (start 1)) → ⊥)
not_sparing = search arith

-- Values ------------------------------------------------------------------------------------------

abbrev waiting : Slot → Option MessageValue
waiting (OfCore c) = if c == 1 then Some (down 1) else None
waiting OfSystem = Some (message Off 3 2 6 [])

-- core 1 alone is ON and suspended in retention, with an opening; each core has its own known
-- start, and each domain its own depth
abbrev values : Values
values = record {
  life = 2;
  halting = true;
  mode = OsInitiated;
  known = λ c. c + 10;
  status = λ c. if c == 1 then statuses.On else statuses.Off;
  phase = λ c. if c == 1 then phases.Suspended (2 ∷ []) else phases.Away;
  opening = λ c. if c == 1 then Some (record { address = 64; context = 9 }) else None;
  granted = λ level place. level * 10 + place;
  confirmed = λ level place. (level == 0 && place == 1) || (level == 1 && place == 0);
  outstanding = waiting;
}

abbrev moved : Values
moved = values_by s values

-- each message is in the slot of its core's other number, and says that number
values_moved : (moved.life ≡ 2) × (moved.halting ≡ true) × (moved.mode ≡ OsInitiated)
    × (map moved.known (0 ∷ 1 ∷ 2 ∷ 3 ∷ []) ≡ 10 ∷ 13 ∷ 12 ∷ 11 ∷ [])
    × (map moved.status (1 ∷ 2 ∷ 3 ∷ []) ≡ statuses.Off ∷ statuses.Off ∷ statuses.On ∷ [])
    × (map moved.phase (1 ∷ 2 ∷ 3 ∷ [])
    ≡ phases.Away ∷ phases.Away ∷ phases.Suspended (2 ∷ []) ∷ [])
    × (map moved.opening (1 ∷ 2 ∷ 3 ∷ [])
    ≡ None ∷ None ∷ Some (record { address = 64; context = 9 }) ∷ [])
    × (map moved.outstanding (OfCore 1 ∷ OfCore 3 ∷ OfSystem ∷ [])
    ≡ None ∷ Some (down 3) ∷ Some (message Off 1 2 6 []) ∷ [])
values_moved = (refl, refl, refl, refl, refl, refl, refl, refl)

-- with two clusters swapped
abbrev turned : Values
turned = values_by (swap_clusters clusters 0 1) values

domains_moved : (map (turned.granted 0) (0 ∷ 1 ∷ 2 ∷ 3 ∷ 4 ∷ []) ≡ 2 ∷ 3 ∷ 0 ∷ 1 ∷ 4 ∷ [])
    × (map (turned.granted 1) (0 ∷ 1 ∷ 2 ∷ []) ≡ 11 ∷ 10 ∷ 12 ∷ []) × (turned.granted 2 0 ≡ 20)
    × (map (turned.confirmed 0) (0 ∷ 1 ∷ 2 ∷ 3 ∷ []) ≡ false ∷ false ∷ false ∷ true ∷ [])
    × (map (turned.confirmed 1) (0 ∷ 1 ∷ 2 ∷ []) ≡ false ∷ true ∷ false ∷ [])
domains_moved = (refl, refl, refl, refl, refl)

-- Histories ---------------------------------------------------------------------------------------

-- CPU_ON of a core, by a core that does not run
abbrev asks_on : ℕ → ℕ → FwExchange
asks_on c target = record {
  core = c;
  call = Smc (registers 0xc4000003 target);
  reply = Fault NotRunning;
}

-- a core calls CPU_OFF, and its message goes out
abbrev goes_off : ℕ → ℕ → FwExchange
goes_off c sender = record { core = c; call = Smc (registers 0x84000002 0); reply = stop sender }

-- the same, told of the swapped cores
abbrev ToldBy : List FwExchange → Type 0
ToldBy h = HappenedBy two_levels s (goes_off 1 1 ∷ asks_on 3 0x100 ∷ []) h

both_swapped : ToldBy (goes_off 3 3 ∷ asks_on 1 0x102 ∷ [])
unfolding core_of
both_swapped = (
  record { core = refl; call = refl; reply = refl },
  (record { core = refl; call = (0x102, refl, refl); reply = refl }, tt),
)

-- by the core itself, with its own message, in another order, and without one of them
told_otherwise : (ToldBy (goes_off 1 3 ∷ asks_on 1 0x102 ∷ []) → ⊥)
    × (ToldBy (goes_off 3 1 ∷ asks_on 1 0x102 ∷ []) → ⊥)
    × (ToldBy (asks_on 1 0x102 ∷ goes_off 3 3 ∷ []) → ⊥)
    × (ToldBy (goes_off 3 3 ∷ []) → ⊥)
    × (ToldBy (goes_off 3 3 ∷ asks_on 3 0x102 ∷ []) → ⊥)
unfolding core_of
told_otherwise = search arith
