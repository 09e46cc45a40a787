-- A core that the last call does not name has nothing more to be written; and a call that names no
-- core has begun no life and changed no status, so nothing is to be written.
use Rattle.std.proofs.Common.{◌∙◌, ◌∷◌, ◌≡◌, ◌≢◌, false, List, None, Option, refl, Some, sym, ℕ}
use Rattle.std.specs.Prelude.{◌<◌, ◌==◌, not, if◌then◌else◌}
use Rattle.std.specs.Ordering.{int_eq}
use Rattle.std.proofs.lemmas.Bool.{cond_both, eqb-false}
use Rattle.std.proofs.lemmas.Option.{none-some}
use Rattle.psci_fw.specs.psci_abi.Calls.{request_of, success}
use Rattle.psci_fw.specs.psci_abi.declared.registers.Code.{Code}
use Rattle.psci_fw.specs.psci_abi.declared.request.Request.{Request}
use Rattle.psci_fw.specs.psci_abi.declared.request.Request.TheVariants as requests
use Rattle.psci_fw.specs.psci_board.Board.{BoardValue, cores}
use Rattle.psci_fw.specs.psci_board.declared.draft.Core.{Core}
use Rattle.psci_fw.specs.psci_fw_spec.declared.call.FwCall.{FwCall}
use Rattle.psci_fw.specs.psci_fw_spec.declared.call.FwCall.TheVariants.{Smc, Enter, Take}
use Rattle.psci_fw.specs.psci_fw_spec.declared.mode.SuspendMode.{SuspendMode}
use Rattle.psci_fw.specs.psci_fw_spec.declared.outcome.Act.{Act}
use Rattle.psci_fw.specs.psci_fw_spec.declared.outcome.Act.TheVariants as acts
use Rattle.psci_fw.specs.psci_fw_spec.declared.reply.FwReply.{FwReply}
use Rattle.psci_fw.specs.psci_fw_spec.declared.reply.FwReply.TheVariants.{Out, Taken}
use Rattle.psci_fw.specs.psci_fw_spec.declared.status.Status.{Status}
use Rattle.psci_fw.specs.psci_fw_spec.Effects.{arrived, Effect, effect_of, function_effect}
use Rattle.psci_fw.specs.psci_fw_spec.Effects.{FwExchange, mode_effect, return_effect}
use Rattle.psci_fw.specs.psci_fw_spec.Effects.{sent_effect, stop_effect}
use Rattle.psci_fw.specs.psci_fw_spec.History.{life, status, values_of}
use Rattle.psci_fw.specs.psci_fw_spec.Statuses.{added}
use Rattle.psci_fw.specs.psci_fw_spec.PowerCalls.{mode_of}
use Rattle.psci_messages.specs.Message.{MessageValue}
use Rattle.psci_status.specs.Lists.{is_named, names, one_more, row, written_then}
use Rattle.psci_shared.specs.Places.{FwEntry}
use Rattle.psci_shared.specs.Passes.{exchange_of, history_of, IsOneBehind, named_by}
use Rattle.psci_shared.specs.Passes.{written_after}
use Rattle.psci_shared.proofs.Crossing.{history_more}
use Rattle.psci_fw.specs.psci_fw_spec.Values.{Values}
use Rattle.psci_status.proofs.Past.{added_last, names_enter, names_smc, names_take, same_code}
use Rattle.psci_status.proofs.Past.{status_stays}

-- a call names no other core
names_no_other : (b : BoardValue) (c : Core) (core : ℕ) (call : FwCall) (reply : FwReply)
    → is_named (named_by c call reply) core ≡ false
    → names (effect_of b c.number call reply) core ≡ false
names_no_other b c core (Smc regs) (Out o) other = names_smc b c.number core regs o other
names_no_other b c core (Enter start) (Out o) other = names_enter b c.number core start o other
names_no_other b c core (Take ack) (Taken taken) other =
    names_take b c.number core ack taken other
names_no_other b c core call reply other = refl

pub others_stay : (b : BoardValue) (log : List (List Status)) (entries : List FwEntry)
    (before : ℕ) (changed : Option Core) (v : Values)
    → IsOneBehind b log entries before changed → v ≡ values_of b (history_of entries)
    → (core : ℕ) → core < cores b → is_named changed core ≡ false → v.life ≡ before
    → v.life ≢ 0 → added (v.status core) (row log core) ≡ row log core
unfolding values_of
others_stay b log entries before changed v (past, last, is, was, named, wrote) at core small
    other same some =
    let h = history_of past in
    let e = exchange_of last in
    let more : history_of entries ≡ e ∷ h = rw is (history_more past last) in
    let lives : life b (e ∷ h) ≡ life b h = rw (at, more, was) at same in
    let begun : life b (e ∷ h) ≢ 0 = rw (at, more) at some in
    let stays : v.status core ≡ status b h core = rw (at, more) (status_stays b e h core lives
    (names_no_other b last.core core last.call last.reply (rw named at other))) in
    rw (stays, wrote core small) (added_last b h core (rw lives at begun))

-- what is written by the firmware's values is what is written by the entries
pub written_by_values : (b : BoardValue) (entries : List FwEntry) (before : ℕ) (v : Values)
    (core : ℕ) (ss : List Status) → v ≡ values_of b (history_of entries)
    → written_then before v core ss ≡ written_after b entries before core ss
unfolding values_of
written_by_values b entries before v core ss at =
    rw at refl

-- No life begins ------------------------------------------------------------------------------

-- nobody entered
abbrev NobodyEntered : Effect → Type 0
NobodyEntered e = arrived e ≡ None

none_stops : (b : BoardValue) (c : ℕ) (r : Request) (m : MessageValue)
    → NobodyEntered (stop_effect b c r m)
none_stops b c requests.SystemOff m = refl
none_stops b c r m = refl

none_mode : (c : ℕ) (mode : Option SuspendMode) → NobodyEntered (mode_effect c mode)
none_mode c None = refl
none_mode c (Some mode) = refl

none_returns : (c : ℕ) (r : Request) (code : Code) → NobodyEntered (return_effect c r code)
none_returns c (requests.SetSuspendMode number) code =
    cond_both (int_eq code.0 success.0) _ _ NobodyEntered (λ set. none_mode c (mode_of number))
    (λ other. refl)
none_returns c r code = refl

none_sends : (c : ℕ) (r : Request) (m : MessageValue) → NobodyEntered (sent_effect c r m)
none_sends c (requests.CpuOn word entry context) m = refl
none_sends c r m = refl

none_calls : (b : BoardValue) (c : ℕ) (r : Request) (act : Act) (m : Option MessageValue)
    → NobodyEntered (function_effect b c r act m)
none_calls b c r acts.Stop (Some m) = none_stops b c r m
none_calls b c r acts.Stop None = refl
none_calls b c r (acts.Return code) (Some m) = none_sends c r m
none_calls b c r (acts.Return code) None = none_returns c r code
none_calls b c r act m = refl

none_unnamed : (b : BoardValue) (c : Core) (call : FwCall) (reply : FwReply)
    → named_by c call reply ≡ None → NobodyEntered (effect_of b c.number call reply)
none_unnamed b c (Smc regs) (Out o) none = none_calls b c.number (request_of regs) o.act o.message
none_unnamed b c (Enter start) (Out o) none = absurd (none-some c (sym none))
none_unnamed b c (Take ack) (Taken taken) none = absurd (none-some ack.core (sym none))
none_unnamed b c call reply none = refl

same_life : (b : BoardValue) (last : FwEntry) (h : List FwExchange)
    → named_by last.core last.call last.reply ≡ None
    → life b (exchange_of last ∷ h) ≡ life b h
same_life b last h none =
    rw (none_unnamed b last.core last.call last.reply none) refl

-- Nothing is to be written --------------------------------------------------------------------

kept : (n before core : ℕ) (s : Status) (written : List Status) → n ≡ before
    → (n ≢ 0 → added s written ≡ written)
    → written ≡ (if n == 0 then written else one_more (not (n == before)) core s written)
kept n before core s written same last =
    cond_both (n == 0) written (one_more (not (n == before)) core s written)
    (λ (ss : List Status). written ≡ ss) (λ none. refl)
    (λ some. rw (← same, same_code n) (sym (last (eqb-false n 0 some))))

pub nothing_to_write : (b : BoardValue) (log : List (List Status)) (entries : List FwEntry)
    (before : ℕ) (named : Option Core) → IsOneBehind b log entries before named → named ≡ None
    → (core : ℕ) → core < cores b
    → row log core ≡ written_after b entries before core (row log core)
unfolding values_of
nothing_to_write b log entries before named (past, last, is, was, name, wrote) none core small =
    let h = history_of past in
    let more : history_of entries ≡ exchange_of last ∷ h = rw is (history_more past last) in
    let lives : life b (history_of entries) ≡ before =
    rw (more, same_life b last h (sym name ∙ none)) (sym was) in
    kept (life b (history_of entries)) before core (status b (history_of entries) core)
    (row log core) lives
    (λ some. others_stay b log entries before named (values_of b (history_of entries))
    (past, last, is, was, name, wrote) refl core small (rw none refl) lives some)
