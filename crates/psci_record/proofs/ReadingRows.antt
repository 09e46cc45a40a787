-- Worked examples: lines that are read, and texts that are no line.
use Rattle.std.proofs.Common.{◌++◌, ◌∷◌, ◌≡◌, [], codes, List, None, Option, refl, replicate, Some}
use Rattle.std.proofs.Common.{ℕ}
use Rattle.psci_record.specs.Reading.{code_in, core_in, Deliver, Event, frame_in, Leaves, number_in}
use Rattle.psci_record.specs.Reading.{read, Wake}
use Rattle.psci_record.specs.Texts.{bytes_text, frame_text, wake_text}
use Rattle.std.specs.Fmt.{digits}
use Rattle.psci_record.specs.declared.line.Named.TheVariants.{Mpidr, Number}
use Rattle.psci_record.specs.declared.line.Reply.TheVariants as replies

-- what a text and a line feed say
abbrev said : List ℕ → Option Event
said text = read (text ++ 10 ∷ [])

empty_text : frame_text (replicate 53 0) ≡ codes "00"
unfolding bytes_text
empty_text = refl

empty_slot : said (codes "deliver 00 -> ignored") ≡ Some (Deliver (replicate 53 0) replies.Ignored)
unfolding frame_in
empty_slot = refl

by_its_mpidr : said (codes "leaves 0x300 0xa") ≡ Some (Leaves (Mpidr 768) 10)
unfolding core_in number_in
by_its_mpidr = refl

second_text : wake_text (Number 3) 2 (replies.Started 4) ≡ codes "wake 3 2 -> started 4"
unfolding digits
second_text = refl

second_start : said (codes "wake 3 2 -> started 4") ≡ Some (Wake (Number 3) 2 (replies.Started 4))
unfolding core_in number_in
second_start = refl

no_frame : said (codes "deliver  -> ignored") ≡ None
unfolding frame_in
no_frame = refl

half_a_byte : said (codes "take 504 -> used") ≡ None
unfolding frame_in
half_a_byte = refl

one_byte_more : said (codes "take " ++ (replicate 108 48 ++ codes " -> used")) ≡ None
unfolding frame_in
one_byte_more = refl

capital_letter : said (codes "leaves 0 0xA") ≡ None
unfolding core_in number_in
capital_letter = refl

no_digit : said (codes "leaves 0 0x") ≡ None
unfolding core_in number_in
no_digit = refl

minus_zero : said (codes "poll 0 0x0 0x0 0x0 -> return -0") ≡ None
unfolding code_in core_in number_in
minus_zero = refl

word_more : said (codes "leaves 0 0xa 0xa") ≡ None
unfolding core_in number_in
word_more = refl

-- what stands behind the line feed is none of it
text_behind : said (codes "leaves 0 0xa" ++ 10 ∷ []) ≡ None
unfolding core_in number_in
text_behind = refl

no_line_feed : read (codes "leaves 0 0xa") ≡ None
unfolding core_in number_in
no_line_feed = refl
