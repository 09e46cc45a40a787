-- What was found out of the row that reads a word says what the word is.
use Rattle.std.proofs.Common.{find}
use Rattle.psci_platform.proofs.Words.{◌≡◌, Bool, can_ask_by, false, if◌then◌else◌, map, None}
use Rattle.psci_platform.proofs.Words.{Reading, reading_of, reads, Some, states_of, sym, true}
use Rattle.psci_platform.proofs.Swapped.{no_word, rows_of, states_missed, states_read}
use Rattle.psci_platform.proofs.Swapped.{word_found}
use Rattle.psci_platform.proofs.description.Description.state_by.Goals.{After-deref}
use Rattle.psci_platform.proofs.description.Description.state_by.Goals as goal

kept : (c : After-deref) → c.deref.result.now
    ≡ map (reading_of c.args.self.now c.args.board.now.format)
    c.args.self.now.rows
kept c = rows_of c.args.self.now c.args.board.now c.args.boot.number c.args.ready c.in-Some.ready _
    c.requires.ready c.in-Some.is c.deref.ensures.value

read : (c : After-deref) (r : Reading)
    → find (λ (r : Reading). reads c.args.word r.row) c.deref.result.now ≡ Some r
    → (t : Bool) → can_ask_by r c.args.mode ≡ t → (if t then Some r.row.states else None)
    ≡ states_of c.args.self.now c.args.mode c.args.word
read c r e t can =
    states_read c.args.self.now c.args.board.now.format c.args.word _
    (kept c) r e c.args.mode t can

missed : (c : After-deref)
    → find (λ (r : Reading). reads c.args.word r.row) c.deref.result.now ≡ None
    → None ≡ states_of c.args.self.now c.args.mode c.args.word
missed c e =
    states_missed c.args.self.now c.args.board.now.format c.args.word _
    (kept c) e c.args.mode

pub returns-in-Some-reader_in-clause-word : goal.returns-in-Some-reader_in-clause-word
returns-in-Some-reader_in-clause-word c =
    word_found c.args.self.now c.args.board.now.format c.args.word _
    (kept (goal.at.returns-in-Some-reader_in-clause-word c).After-deref)
    c.in-Some-reader_in.reading.now (sym c.in-Some-reader_in.ensures) c.args.mode
    (sym c.if-can_ask.ensures)

pub returns-in-Some-reader_in-clause-states : goal.returns-in-Some-reader_in-clause-states
returns-in-Some-reader_in-clause-states c =
    read (goal.at.returns-in-Some-reader_in-clause-states c).After-deref _
    (sym c.in-Some-reader_in.ensures) true (sym c.if-can_ask.ensures)

pub returns-in-Some-2-clause-word : goal.returns-in-Some-2-clause-word
returns-in-Some-2-clause-word c =
    no_word c.args.self.now c.args.board.now.format c.args.mode c.args.word
    (read (goal.at.returns-in-Some-2-clause-word c).After-deref _
    (sym c.in-Some-reader_in.ensures) false (sym c.if-can_ask.ensures))

pub returns-in-Some-2-clause-states : goal.returns-in-Some-2-clause-states
returns-in-Some-2-clause-states c =
    read (goal.at.returns-in-Some-2-clause-states c).After-deref _
    (sym c.in-Some-reader_in.ensures) false (sym c.if-can_ask.ensures)

pub returns-in-None-clause-word : goal.returns-in-None-clause-word
returns-in-None-clause-word c =
    no_word c.args.self.now c.args.board.now.format c.args.mode c.args.word
    (missed (goal.at.returns-in-None-clause-word c).After-deref (sym c.in-None.ensures))

pub returns-in-None-clause-states : goal.returns-in-None-clause-states
returns-in-None-clause-states c =
    missed (goal.at.returns-in-None-clause-states c).After-deref (sym c.in-None.ensures)
