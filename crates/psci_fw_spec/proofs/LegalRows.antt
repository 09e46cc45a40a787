-- Worked examples: a history that is legal, and for each way to be wrong one that is not.
use Rattle.std.proofs.Common.{◌∷◌, ◌≡◌, [], ap, Bool, false, List, map, negsuc, pos, refl, Some}
use Rattle.std.proofs.Common.{true, ℕ}
use Rattle.std.specs.Prelude.{flat_map}
use Rattle.psci_board.specs.Board.{BoardValue}
use Rattle.psci_messages.specs.declared.part.Part.{Part}
use Rattle.psci_messages.specs.Message.{MessageValue}
use Rattle.psci_messages.specs.declared.kind.Kind.TheVariants as kinds
use Rattle.psci_fw_spec.specs.declared.fault.FwFault.TheVariants.{NoCore, NoLife, NotRunning}
use Rattle.psci_fw_spec.specs.declared.fault.FwFault.TheVariants.{OldStart}
use Rattle.psci_fw_spec.specs.declared.outcome.Act.TheVariants as acts
use Rattle.psci_fw_spec.specs.declared.reply.FwReply.{FwReply}
use Rattle.psci_fw_spec.specs.declared.reply.FwReply.TheVariants.{Out}
use Rattle.psci_fw_spec.specs.Effects.{FwExchange}
use Rattle.psci_fw_spec.specs.Legal.{fault_code, is_legal, is_same_reply, IsLegal, legal_reply}
use Rattle.psci_fw_spec.proofs.Steps.{◌⇒◌, board, boot, boots, code, computing, enter_on}
use Rattle.psci_fw_spec.proofs.Steps.{enter_wake, goes_on_3, goes_to, history_from, message, old}
use Rattle.psci_fw_spec.proofs.Steps.{on_3, part, refused, resumes, Row, starts, Step, stops}
use Rattle.psci_fw_spec.proofs.Steps.{stops_by, stops_still, suspend, system_off, take}
use Rattle.psci_fw_spec.proofs.Steps.{take_down, used, value, version, with_entry}

-- the history of calls that are answered as the definitions say is legal, whatever the calls
legal_from : (b : BoardValue) (h : List FwExchange) (steps : List Step) → IsLegal b h
    → IsLegal b (history_from b h steps)
legal_from b h [] legal = legal
legal_from b h (s ∷ ss) legal =
    let reply = legal_reply b h s.core s.call in
    legal_from b (record { core = s.core; call = s.call; reply = reply } ∷ h) ss (refl, legal)

-- whether a history of these calls and replies, the last one first, is legal
abbrev is_legal_of : List Row → Bool
is_legal_of rows = is_legal board (flat_map (λ r. with_entry r.given r.comes []) rows)

-- none of these is
abbrev AreIllegal : List (List Row) → Type 0
AreIllegal histories = map is_legal_of histories ≡ map (λ h. false) histories

-- a code, and this message
abbrev sends : ℕ → MessageValue → FwReply
sends n m = Out (record { act = acts.Return (record { 0 = pos n }); message = Some m })

-- a CPU_ON of core 3 with this message, and a suspend whose Down has these parts
abbrev asked : MessageValue → List Row
asked m = on_3 ⇒ sends 0 m ∷ boot ⇒ boots ∷ []

abbrev suspended : List Part → List Row
suspended parts = suspend 0 0x02010233 0x40000100 0 ⇒ stops 0 1 1 parts ∷ boot ⇒ boots ∷ []

legal : map is_legal_of
    ([]
    -- one with each kind of reply: the boot core entered and asked core 3 on, core 3 entered, was
    -- suspended and resumed, a call was answered and one refused, core 3 parked, that was
    -- acknowledged, and once more
    ∷ (take_down 3 1 3 2 ⇒ old
    ∷ take_down 3 1 3 2 ⇒ used
    ∷ enter_wake 3 1 3 ⇒ stops 3 1 3 (part 0 3 3 ∷ part 1 3 3 ∷ [])
    ∷ version 1 ⇒ refused NotRunning
    ∷ version 0 ⇒ value 65537
    ∷ enter_wake 3 1 2 ⇒ resumes
    ∷ suspend 3 0x1 0 0 ⇒ stops 3 1 1 (part 0 1 1 ∷ [])
    ∷ enter_on 3 1 1 ⇒ goes_on_3
    ∷ on_3 ⇒ starts 3 1 0
    ∷ boot ⇒ boots ∷ [])
    -- a halting life
    ∷ (enter_wake 3 1 1 ⇒ stops_still ∷ system_off 0 ⇒ stops_by kinds.Off 0 1 1 [] ∷ boot ⇒ boots
    ∷ [])
    ∷ asked (message kinds.Start 3 1 0 [])
    ∷ suspended (part 0 3 1 ∷ part 1 3 1 ∷ part 2 2 1 ∷ []) ∷ [])
    ≡ true ∷ true ∷ true ∷ true ∷ true ∷ []
unfolding computing
legal = refl

other_acts : AreIllegal
    -- another code, and the same with another sign
    ((version 0 ⇒ value 65536 ∷ boot ⇒ boots ∷ [])
    ∷ (version 0 ⇒ code (negsuc 65536) ∷ boot ⇒ boots ∷ [])
    -- a stop, a resume or an entry in place of a return
    ∷ (version 0 ⇒ stops_still ∷ boot ⇒ boots ∷ [])
    ∷ (version 0 ⇒ resumes ∷ boot ⇒ boots ∷ [])
    ∷ (version 0 ⇒ boots ∷ boot ⇒ boots ∷ [])
    -- a return or a resume in place of an entry
    ∷ (boot ⇒ value 0 ∷ [])
    ∷ (boot ⇒ resumes ∷ [])
    -- an entry in place of a resume, and a return in place of a stop
    ∷ (enter_wake 0 1 2 ⇒ goes_to 0x40000100 5
    ∷ suspend 0 0x1 0x40000100 5 ⇒ stops 0 1 1 (part 0 1 1 ∷ []) ∷ boot ⇒ boots ∷ [])
    ∷ (suspend 0 0x1 0x40000100 5 ⇒ value 0 ∷ boot ⇒ boots ∷ [])
    -- another address, another context id
    ∷ (boot ⇒ goes_to 0x40000004 0 ∷ [])
    ∷ (boot ⇒ goes_to 0x40000000 1 ∷ []) ∷ [])
unfolding computing
other_acts = refl

other_messages : AreIllegal
    -- what is sent for core 3 by a CPU_ON: none, another kind, core, life or number, a part too
    -- many
    ((on_3 ⇒ value 0 ∷ boot ⇒ boots ∷ [])
    ∷ asked (message kinds.Down 3 1 0 [])
    ∷ asked (message kinds.Start 2 1 0 [])
    ∷ asked (message kinds.Start 3 2 0 [])
    ∷ asked (message kinds.Start 3 1 1 [])
    ∷ asked (message kinds.Start 3 1 0 (part 0 3 0 ∷ []))
    -- one where nothing is sent
    ∷ (version 0 ⇒ sends 65537 (message kinds.Start 3 1 0 []) ∷ boot ⇒ boots ∷ [])
    -- the parts of a Down: another level, depth or generation, one too few, one too many
    ∷ suspended (part 0 3 1 ∷ part 1 3 1 ∷ part 3 2 1 ∷ [])
    ∷ suspended (part 0 3 1 ∷ part 1 2 1 ∷ part 2 2 1 ∷ [])
    ∷ suspended (part 0 3 2 ∷ part 1 3 1 ∷ part 2 2 1 ∷ [])
    ∷ suspended (part 0 3 1 ∷ part 1 3 1 ∷ [])
    ∷ suspended (part 0 3 1 ∷ part 1 3 1 ∷ part 2 2 1 ∷ part 3 1 1 ∷ []) ∷ [])
unfolding computing
other_messages = refl

other_refusals : AreIllegal
    -- another refusal, a refusal where there is none, and none where there is one
    ((version 1 ⇒ refused NoLife ∷ boot ⇒ boots ∷ [])
    ∷ (version 0 ⇒ refused NotRunning ∷ boot ⇒ boots ∷ [])
    ∷ (version 1 ⇒ value 65537 ∷ boot ⇒ boots ∷ [])
    -- an acknowledgement that is old was used, one that is used was old, or was answered like a
    -- call
    ∷ (take_down 3 1 1 2 ⇒ used ∷ boot ⇒ boots ∷ [])
    ∷ (take kinds.Start 3 1 0 1 false ⇒ old ∷ on_3 ⇒ starts 3 1 0 ∷ boot ⇒ boots ∷ [])
    ∷ (take_down 3 1 1 2 ⇒ value 0 ∷ boot ⇒ boots ∷ []) ∷ [])
unfolding computing
other_refusals = refl

-- each refusal is another one
refusals_differ : map fault_code (NoCore ∷ NoLife ∷ NotRunning ∷ OldStart ∷ [])
    ≡ 1 ∷ 2 ∷ 3 ∷ 4 ∷ []
refusals_differ = refl

earlier_entries : AreIllegal
    -- a wrong reply that is not the last one
    ((version 0 ⇒ value 65537 ∷ version 0 ⇒ value 0 ∷ boot ⇒ boots ∷ [])
    ∷ (version 0 ⇒ value 65537 ∷ boot ⇒ goes_to 0x40000000 1 ∷ [])
    -- a reply that is right after other calls than these
    ∷ (version 0 ⇒ value 65537 ∷ [])
    -- the oldest exchange is the last of the list
    ∷ (boot ⇒ boots ∷ version 0 ⇒ value 65537 ∷ []) ∷ [])
unfolding computing
earlier_entries = refl

-- a history with a wrong reply is not legal, nor one with a wrong reply before a right one
other_reply : (r : FwReply) → is_same_reply boots r ≡ false → r ≡ boots → ⊥
other_reply r other same =
    let e : is_same_reply boots r ≡ is_same_reply boots boots = ap (is_same_reply boots) same in
    absurd (cc)

illegal : IsLegal board (with_entry boot (value 0) []) → ⊥
unfolding computing
illegal legal = other_reply _ refl legal.0

illegal_before : IsLegal board
    (with_entry boot boots (with_entry boot (refused NoLife) [])) → ⊥
unfolding computing
illegal_before legal = other_reply _ refl legal.1.0
