-- A reader and the writer tell each other what they saw and wrote.
use Rattle.std.proofs.Common.{◌≡◌, length, sym, ap, ◌∙◌, arith}
use Rattle.atomic_table.specs.Table.{Me}
use Rattle.psci_status.specs.declared.rule.View.{View}
use Rattle.psci_status.proofs.Steps.{informs, length-informed_seen, looks, notes}
use Rattle.psci_status.proofs.seats.StatusWords.trade.Goals as goal

pub split_seat-note-requires : goal.split_seat-note-requires
split_seat-note-requires c = (c.requires.tables.reader, c.args.self.now.some, notes _ _ _)

pub join_seat-requires : goal.join_seat-requires
join_seat-requires c =
    let s = c.split_seat-note.ensures in (
      c.requires.tables.writer,
      s.3 ∙ c.requires.tables.reader,
      ap
          (λ (m : Me (Unit {0}) View). m.1) s.4,
      c.args.self.now.some,
      informs _ _ _ _ _,
    )

pub load-found-requires : goal.load-found-requires
load-found-requires c =
    let j = c.join_seat.ensures in (
      j.0 ∙ c.requires.tables.writer,
      c.args.self.now.some,
      looks _ _ _ _ _ (ap (λ (m : Me (Unit {0}) View). m.0.writer) j.2 ∙ c.args.writer.now.writes)
          (omega (arith, c.args.self.now.cores, c.args.self.now.some)),
    )

pub split_seat-note-requires-2 : goal.split_seat-note-requires-2
split_seat-note-requires-2 c = (
  c.load-found.ensures.0 ∙ c.join_seat.ensures.0
      ∙ c.requires.tables.writer,
  c.args.self.now.some,
  notes _ _ _,
)

pub join_seat-requires-2 : goal.join_seat-requires-2
join_seat-requires-2 c =
    let s = c.split_seat-note-2.ensures in (
      c.split_seat-note.ensures.0 ∙ c.requires.tables.reader,
      s.3 ∙ c.load-found.ensures.0
          ∙ c.join_seat.ensures.0 ∙ c.requires.tables.writer,
      ap
          (λ (m : Me (Unit {0}) View). m.1) s.4,
      c.args.self.now.some,
      informs _ _ _ _ _,
    )

pub invariant_of-reader : goal.invariant_of-reader
invariant_of-reader c =
    let r = c.args.reader.now in
    let s = c.split_seat-note.ensures in
    let j = c.join_seat-2.ensures in
    let seen : length c.join_seat-2.new.seat.me.0.seen ≡ length
    c.split_seat-note.new.seat.me.0.seen = ap (λ (m : Me (Unit {0}) View). length m.0.seen) j.2
    ∙ length-informed_seen _ _ _ in
    record {
      empty = ap (λ (m : Me (Unit {0}) View). m.1) j.2 ∙ ap (λ (m : Me (Unit {0}) View). m.1) s.2
          ∙ r.empty;
      reads = ap (λ (m : Me (Unit {0}) View). m.0.writer) j.2 ∙ ap
          (λ (m : Me (Unit {0}) View). m.0.writer) s.2 ∙ r.reads;
      long = seen ∙ ap (λ (m : Me (Unit {0}) View). length m.0.seen) s.2 ∙ r.long ∙ sym
          (ap (λ t. t.words) (j.0 ∙ s.0));
    }
