-- Worked examples: lists of entries of runs that were safe at every moment, as computing says, and
-- that are so legal: in each life and mode, by each start, of a life that is to end and in the
-- extended format; and for each one that is not legal, and so that of no run.
use Rattle.std.proofs.Common.{◌∷◌, ◌≡◌, [], arith, false, List, negsuc, None, Option, pos, refl}
use Rattle.std.proofs.Common.{Some, true, ℕ}
use Rattle.psci_world_spec.specs.psci_board.Board.{BoardValue}
use Rattle.psci_headline.specs.psci_abi.declared.registers.Format.TheVariants.{Extended}
use Rattle.psci_world_spec.specs.psci_messages.declared.part.Part.{Part}
use Rattle.psci_world_spec.specs.psci_messages.declared.kind.Kind.{Kind}
use Rattle.psci_world_spec.specs.psci_messages.Message.{MessageValue}
use Rattle.psci_world_spec.proofs.Scripts.{board, call, part, stays_legal}
use Rattle.psci_audit.specs.Entries.{Asked, Controlled, Entry, IsLegal}
use Rattle.psci_audit.specs.Told.{asked, controlled, IsListOfSafe, Tells}
use Rattle.psci_audit.proofs.ListRows.{boots, delivers_3, enters, judging, on_3}
use Rattle.psci_audit.proofs.ListRows.{resets, start, start_3, version}
use Rattle.psci_world_spec.specs.declared.event.Event.{Event}
use Rattle.psci_world_spec.specs.declared.event.Event.TheVariants.{Deliver, Enter, Reset}
use Rattle.psci_world_spec.specs.Legal.{run_from}
use Rattle.psci_headline.specs.Safe.{claims, live_claims, openings, taken_up, was_in_state}
use Rattle.psci_headline.specs.Safe.{was_powered_down}
use Rattle.psci_headline.specs.Test.{is_always_safe}
use Rattle.psci_headline.proofs.Tested.{always_tested}
use Rattle.psci_audit.proofs.MayFollow.{legal_list}
use Rattle.psci_world_spec.specs.psci_ctl_spec.declared.call.CtlCall.TheVariants as asks
use Rattle.psci_world_spec.specs.psci_ctl_spec.declared.delivery.Delivery.TheVariants as deliveries
use Rattle.psci_world_spec.specs.psci_ctl_spec.declared.reply.CtlReply.TheVariants as replied
use Rattle.psci_world_spec.specs.psci_fw_spec.declared.call.FwCall.TheVariants as calls
use Rattle.psci_world_spec.specs.psci_fw_spec.declared.outcome.Act.TheVariants as acts
use Rattle.psci_world_spec.specs.psci_fw_spec.declared.reply.FwReply.TheVariants as replies
use Rattle.psci_world_spec.specs.psci_messages.declared.kind.Kind.TheVariants as kinds
use Rattle.psci_world_spec.specs.psci_messages.declared.start.Cause.TheVariants as causes
use Rattle.psci_world_spec.proofs.Scripts as scripts

-- a core calls a function with one argument, stops, and sends a message or none
abbrev stops : ℕ → ℕ → ℕ → Option MessageValue → Entry
stops c x0 x1 m = Asked (asked c (calls.Smc (record { x0 = x0; x1 = x1; x2 = 0; x3 = 0 }))
    (replies.Out (record { act = acts.Stop; message = m })))

-- the same returns a code, 0 or more
abbrev returns : ℕ → ℕ → ℕ → ℕ → Entry
returns c x0 x1 code = Asked (asked c (calls.Smc (record { x0 = x0; x1 = x1; x2 = 0; x3 = 0 }))
    (replies.Out (record { act = acts.Return (record { 0 = pos code }); message = None })))

-- and one below 0, by its absolute value less 1
abbrev refused : ℕ → ℕ → ℕ → ℕ → Entry
refused c x0 x1 code = Asked (asked c (calls.Smc (record { x0 = x0; x1 = x1; x2 = 0; x3 = 0 }))
    (replies.Out (record { act = acts.Return (record { 0 = negsuc code }); message = None })))

-- a message of core 0 in its first start of a life
abbrev message : Kind → ℕ → List Part → MessageValue
message kind life parts = record {
  kind = kind;
  core = record { number = 0 };
  life = life;
  number = 1;
  parts = parts;
}

-- core 0 asks for a reset of the system, which is carried out
abbrev system_reset : ℕ → Entry
system_reset life = stops 0 0x84000009 0 (Some (message kinds.Reset life []))

abbrev ends : ℕ → Entry
ends life = Controlled (controlled (asks.Deliver (message kinds.Reset life []))
    (replied.Delivery (deliveries.Applied (record {
      kind = kinds.Reset;
      core = record { number = 0 };
      life = life;
      number = 1;
      applied = 1;
      stale = false;
    }))))

-- the boot core enters in this life
abbrev boots_in : ℕ → Entry
boots_in life = enters 0 (record (start 1 causes.Boot) { life = life }) 0x40000000 0

-- core 0 turns the system off; core 3 goes on until it calls, and stops without a message
abbrev system_off : Entry
system_off = stops 0 0x84000008 0 (Some (message kinds.Off 1 []))

abbrev on : List Entry
on = enters 3 (start 1 causes.On) 0x40001000 7 ∷ delivers_3 ∷ on_3 ∷ boots ∷ []

abbrev extended : BoardValue
extended = record board { format = Extended }

-- Not legal -------------------------------------------------------------------------------------

illegal_lists :
    -- wrong_value_in_life_2: another value
    (IsLegal board (version 0 1 ∷ boots_in 2 ∷ ends 1 ∷ system_reset 1 ∷ boots ∷ []) → ⊥)
    -- by_the_last_life: an entry by the life before
    × (IsLegal board (boots_in 2 ∷ ends 2 ∷ system_reset 2 ∷ boots_in 2 ∷ ends 1 ∷ system_reset 1 ∷
    boots ∷ []) → ⊥)
    -- answered_while_halting: a core is answered that has to stop
    × (IsLegal board (version 3 65537 ∷ system_off ∷ on) → ⊥)
    -- stops_in_this_mode: what is not answered as in the other mode
    × (IsLegal board (stops 0 0xc4000001 0x02000222 (Some (message kinds.Down 1 (part 0 2 1 ∷ part 1
    2 1 ∷ []))) ∷ returns 0 0x8400000f 1 0 ∷ on) → ⊥)
    -- by_the_third: an entry by the start before
    × (IsLegal board (enters 0 (start 3 causes.Reset) 0x40000000 0 ∷ resets 0 4 ∷ resets 0 3 ∷
    resets 0 2 ∷ boots ∷ []) → ⊥)
    -- original_in_extended: a word of the other format
    × (IsLegal extended (stops 0 0xc4000001 0x01000022 (Some (message kinds.Down 1 (part 0 2 1 ∷
    part 1 2 1 ∷ []))) ∷ boots ∷ []) → ⊥)
unfolding judging
illegal_lists = search arith

-- Safe, and so legal -----------------------------------------------------------------------------

-- what an example unfolds to compute what a run tells, and that it is safe
unfoldable checking : Unit {0}
unfolding scripts.computing claims live_claims was_powered_down openings taken_up was_in_state
checking = tt

-- the list that these events tell, where each moment passes the tests
safe_list : (b : BoardValue) (events : List Event) (entries : List Entry)
    → Tells b (run_from b [] events) entries
    → is_always_safe b (run_from b [] events) ≡ true → IsListOfSafe b entries
safe_list b events entries tells safe = record {
  past = run_from b [] events;
  legal = stays_legal b [] events tt;
  tells = tells;
  safe = (always_tested b (run_from b [] events)).0 safe;
}

-- a list that is not legal is that of no run
no_list : (b : BoardValue) (entries : List Entry) → (IsLegal b entries → ⊥)
    → IsListOfSafe b entries → ⊥
no_list b entries wrong is =
    wrong (legal_list b entries (record { past = is.past; legal = is.legal; tells = is.tells }))

-- what tells that the boot core entered, that core 3 was asked on and entered, and two lives
boots_is_told : Tells board (run_from board [] (Enter 0 ∷ [])) (boots ∷ [])
unfolding checking
boots_is_told = ((start 1 causes.Boot, refl, refl), tt)

on_is_told : Tells board (run_from board [] (Enter 0 ∷ scripts.on_3 ∷ Deliver 0 ∷ Enter 3 ∷ [])) on
unfolding checking
on_is_told = ((start 1 causes.On, refl, refl), ((start_3, refl, refl), (refl, boots_is_told)))

life_2_is_told : Tells board
    (run_from board [] (Enter 0 ∷ scripts.system_reset 0 ∷ Deliver 0 ∷ Enter 0 ∷ []))
    (boots_in 2 ∷ ends 1 ∷ system_reset 1 ∷ boots ∷ [])
unfolding checking
life_2_is_told = (
  (record (start 1 causes.Boot) { life = 2 }, refl, refl),
  ((message kinds.Reset 1 [], refl, refl), (refl, boots_is_told)),
)

are_of_safe :
    -- boot_core_calls: in the first life
    IsListOfSafe board (version 0 65537 ∷ boots ∷ [])
    -- both_call: core 3 was asked on, and both call
    × IsListOfSafe board (version 0 65537 ∷ version 3 65537 ∷ on)
    -- in_life_2: the system was reset
    × IsListOfSafe board (boots_in 2 ∷ ends 1 ∷ system_reset 1 ∷ boots ∷ [])
    -- in_life_3: and again
    × IsListOfSafe board (boots_in 3 ∷ ends 2 ∷ system_reset 2 ∷ boots_in 2 ∷ ends 1 ∷ system_reset
    1 ∷ boots ∷ [])
    -- silence_told: a core calls in a life that is to end
    × IsListOfSafe board (stops 3 0x84000000 0 None ∷ system_off ∷ on)
    -- denial_told: in OS-initiated mode
    × IsListOfSafe board (refused 0 0xc4000001 0x02000222 2 ∷ returns 0 0x8400000f 1 0 ∷ on)
    -- second_start_told: a core is reset
    × IsListOfSafe board (resets 0 2 ∷ boots ∷ [])
    -- third_start_told: twice
    × IsListOfSafe board (resets 0 3 ∷ resets 0 2 ∷ boots ∷ [])
    -- fourth_start_told: three times
    × IsListOfSafe board (resets 0 4 ∷ resets 0 3 ∷ resets 0 2 ∷ boots ∷ [])
    -- retention_told_in_extended: in the extended format
    × IsListOfSafe extended (stops 0 0xc4000001 0x22 (Some (message kinds.Down 1 (part 0 2 1 ∷ part
    1 2 1 ∷ []))) ∷ boots ∷ [])
unfolding checking
are_of_safe = (
  safe_list board (Enter 0 ∷ scripts.version 0 ∷ []) _ (refl, boots_is_told) refl,
  safe_list board (Enter 0 ∷ scripts.on_3 ∷ Deliver 0 ∷ Enter 3 ∷ scripts.version 3 ∷
      scripts.version 0 ∷ []) _ (refl, (refl, on_is_told)) refl,
  safe_list board (Enter 0 ∷ scripts.system_reset 0 ∷ Deliver 0 ∷ Enter 0 ∷ []) _ life_2_is_told
      refl,
  safe_list board (Enter 0 ∷ scripts.system_reset 0 ∷ Deliver 0 ∷ Enter 0 ∷ scripts.system_reset 0 ∷
      Deliver 1 ∷ Enter 0 ∷ []) _ (
        (record (start 1 causes.Boot) { life = 3 }, refl, refl),
        ((message kinds.Reset 2 [], refl, refl), (refl, life_2_is_told)),
      ) refl,
  safe_list board (Enter 0 ∷ scripts.on_3 ∷ Deliver 0 ∷ Enter 3 ∷ scripts.system_off 0 ∷
      scripts.version 3 ∷ []) _ (refl, (refl, on_is_told)) refl,
  safe_list board (Enter 0 ∷ scripts.on_3 ∷ Deliver 0 ∷ Enter 3 ∷ call 0 0x8400000f 1 0 0 ∷ call 0
      0xc4000001 0x02000222 0 0 ∷ []) _ (refl, (refl, on_is_told)) refl,
  safe_list board (Enter 0 ∷ Reset 0 ∷ []) _ (refl, boots_is_told) refl,
  safe_list board (Enter 0 ∷ Reset 0 ∷ Reset 0 ∷ []) _ (refl, (refl, boots_is_told)) refl,
  safe_list board (Enter 0 ∷ Reset 0 ∷ Reset 0 ∷ Reset 0 ∷ []) _ (
    refl,
    (
      refl,
      (
        refl,
        boots_is_told,
      ),
    ),
  ) refl,
  safe_list extended (Enter 0 ∷ call 0 0xc4000001 0x22 0 0 ∷ []) _ (
    refl,
    (
      (
        start 1 causes.Boot,
        refl,
        refl,
      ),
      tt,
    ),
  ) refl,
)
