-- On each board, by the lemmas of the crates below: what holds of every legal run, and on what the
-- proofs of this crate stand.
use Rattle.psci_headline.proofs.Words.{◌∷◌, ◌≡◌, AreRising, BoardValue, controller_history}
use Rattle.psci_headline.proofs.Words.{controller_values, firmware_history, firmware_legal}
use Rattle.psci_headline.proofs.Words.{firmware_values, IsLegalPast, List, Node, place, Record}
use Rattle.psci_headline.proofs.Words.{sent, Some}
use Rattle.psci_board.proofs.Paths.{child_laws, path_laws, size_laws}
use Rattle.psci_board.specs.Board.{IsBoard}
use Rattle.psci_ctl_spec.proofs.Depths.{deep_from}
use Rattle.psci_fw_laws.proofs.Made.{deeper}
use Rattle.psci_fw_laws.proofs.Histories.{was_asked}
use Rattle.psci_world_spec.proofs.Answered.{controller_answered}
use Rattle.psci_headline.specs.Laws.{AllOff, AreApart, AreAsked, AreClaimed, is_off_depth}
use Rattle.psci_headline.specs.Laws.{is_standby_depth, NoneExecutes, NoneRefused, told_hw, told_off}
use Rattle.psci_headline.specs.Laws.{WasSoDeep}
use Rattle.psci_headline.proofs.Controls.{AreAgreed}
use Rattle.psci_headline.proofs.Downs.{off_is_down}
use Rattle.psci_headline.proofs.Claiming.{asked, were_asked}
use Rattle.psci_headline.proofs.Carried.{is_given}
use Rattle.psci_headline.proofs.Confirmed.{states_real}
use Rattle.psci_headline.proofs.LiveOnes.{always, claimed_depth, distinct, no_deeper}
use Rattle.psci_headline.proofs.LiveOnes.{none_below_sleeping, none_without_life, one_live}
use Rattle.psci_headline.proofs.Moves.{call_passed, enter_passed}
use Rattle.psci_headline.proofs.Sending.{same_sent}
use Rattle.psci_headline.proofs.Nexts.{live_depth, SettleLaws}
use Rattle.psci_headline.proofs.CoreSteps.{waited}
use Rattle.psci_headline.proofs.ToldOff.{all_off}
use Rattle.psci_headline.proofs.ToldHw.{was_off, was_standby}
use Rattle.psci_headline.proofs.Entering.{are_taken_up}
use Rattle.psci_headline.specs.Safe.{AlwaysSafe}
use Rattle.psci_headline.proofs.Runs.{agreement, control_values, controlled, run_laws, run_values}
use Rattle.psci_headline.proofs.Runs.{sent_holds}
use Rattle.psci_headline.proofs.Beside as quiet

pub none_refused : (b : BoardValue) (past : List Record) → IsBoard b → IsLegalPast b past
    → NoneRefused b past
none_refused b past board legal =
    let are = control_values b past board legal in
    let both = agreement b past board legal in
    let h : AreAgreed b (controller_values b past) (place b past) (firmware_values b past) =
    record { begun = both.begun; stopped = both.stopped; present = both.present } in
    record {
      calls = λ c. call_passed b _ _ _ c are h;
      enters = λ c. enter_passed b _ _ _ c are h;
    }

-- Claims --------------------------------------------------------------------------------------

rising : (b : BoardValue) (past : List Record) → IsBoard b → IsLegalPast b past
    → AreRising b (sent past)
rising b past board legal = (sent_holds b past board legal).apart

pub claims_apart : (b : BoardValue) (past : List Record) → IsBoard b → IsLegalPast b past
    → AreApart b past
claims_apart b past board legal life n j k p q has =
    distinct b life n past has (rising b past board legal) j k p q

pub claims_asked : (b : BoardValue) (past : List Record) → IsBoard b → IsLegalPast b past
    → AreAsked b past
claims_asked b past board legal life n k p has =
    asked b life n past k p has (were_asked b past (λ some is. record {
      same = same_sent b some is;
      apart = rising b some board is;
      asked = was_asked b (firmware_history b some) board (firmware_legal b some is);
    }) legal)

pub depths_claimed : (b : BoardValue) (past : List Record) → IsBoard b → IsLegalPast b past
    → AreClaimed b past
depths_claimed b past board legal life n has =
    claimed_depth b past life n (controller_answered b past legal)
    (deep_from b (controller_history b past) n.level n.place life board
    (controlled b past board legal) has.level)

pub none_executes : (b : BoardValue) (past : List Record) → IsBoard b → IsLegalPast b past
    → NoneExecutes b past
none_executes b past board legal =
    quiet.none_executes b past (path_laws b board) (control_values b past board legal)
    (sent_holds b past board legal) (agreement b past board legal)

-- How the world settles ----------------------------------------------------------------

pub settle_laws : (b : BoardValue) → IsBoard b → SettleLaws b
settle_laws b board = record {
  some = (size_laws b board).some 0;
  kids = child_laws b board;
  runs = run_laws b board;
  past = λ p legal. record {
    given = is_given b p board legal;
    values = control_values b p board legal;
    waits = waited b p board legal;
    free = none_refused b p board legal;
    deeper = λ c level q. deeper b (firmware_values b p) (sent p) c level q
        (run_values b p board legal) (sent_holds b p board legal);
    claimed = λ life level place has present some.
        live_depth b p life level place has (controller_answered b p legal)
        (deep_from b (controller_history b p) level place life board (controlled b p board legal)
        has.level) present some;
  };
}

-- A record that says so -----------------------------------------------------------------------

pub off_told : (b : BoardValue) (r : Record) (past : List Record) (n : Node) → IsBoard b
    → IsLegalPast b (r ∷ past) → told_off b r.event r.said ≡ Some n → AllOff b past n
off_told b r past n board legal told =
    all_off b r past n (path_laws b board) (firmware_legal b (r ∷ past) legal)
    (off_is_down b past board legal.1) told

pub hw_off_told : (b : BoardValue) (r : Record) (past : List Record) (n : Node) → IsBoard b
    → IsLegalPast b (r ∷ past) → told_hw b 1 r.event r.said ≡ Some n
    → WasSoDeep b is_off_depth past n
hw_off_told b r past n board legal =
    was_off b r past n (λ p is. (control_values b p board is).deepest) legal.1
    (firmware_legal b (r ∷ past) legal) (states_real b past board legal.1)

pub standby_told : (b : BoardValue) (r : Record) (past : List Record) (n : Node) → IsBoard b
    → IsLegalPast b (r ∷ past) → told_hw b 2 r.event r.said ≡ Some n
    → WasSoDeep b is_standby_depth past n
standby_told b r past n board legal =
    was_standby b r past n (λ p is. (control_values b p board is).deepest) legal.1
    (firmware_legal b (r ∷ past) legal) (states_real b past board legal.1)

-- Every moment --------------------------------------------------------------------------------

pub always_safe : (b : BoardValue) (past : List Record) → IsBoard b → IsLegalPast b past
    → AlwaysSafe b past
always_safe b past board = always b (λ p legal.
    let claimed = depths_claimed b p board legal in
    record {
      powered = none_below_sleeping b p (path_laws b board) claimed
          (none_executes b p board legal)
          (none_without_life b p (agreement b p board legal).stopped);
      off = off_is_down b p board legal;
      one = λ n has. one_live b p n (λ life j k x y.
          claims_apart b p board legal life n j k x y has);
      asked = no_deeper b p claimed (claims_asked b p board legal);
      entries = are_taken_up b (firmware_history b p) board (firmware_legal b p legal);
      states = states_real b p board legal;
    }) past
