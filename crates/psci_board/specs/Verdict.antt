-- What a board text says: its board, or the first fault.
use Rattle.std.specs.List.{list_any}
use Rattle.std.specs.Prelude.{◌&&◌, ◌==◌, ◌||◌, ◌∷◌, ◌≡◌, [], Bool, codes, Err, false, flat_map}
use Rattle.std.specs.Prelude.{if◌then◌else◌, IsOk, length, List, map, nat_lt, None, not, Ok}
use Rattle.std.specs.Prelude.{Option, Result, slice_index, Some, suc, sum, true, zero, ℕ}
use Rattle.std.specs.Str.{bytes_eq}
use Rattle.std.specs.Str.Parse.{digits_value}
use Rattle.psci_board.specs.Board.{BoardValue, may_enter}
use Rattle.psci_board.specs.Draft.{first_fault, has_bad_range, unless}
use Rattle.psci_board.specs.Grammar.{◌>>=◌, BoardText, hex_at, literal_at, Member, number_at}
use Rattle.psci_board.specs.Grammar.{spaced_at, TreeText}
use Rattle.psci_board.specs.Grammar.Member.{Cluster, Group}
use Rattle.psci_board.specs.Grammar.TreeText.{Members, One}
use Rattle.psci_board.specs.declared.draft.BoardDraft.{BoardDraft}
use Rattle.psci_board.specs.declared.fault.BoardFault.{BoardFault}
use Rattle.psci_board.specs.declared.fault.BoardFault.TheVariants.{Grammar, Memory}
use Rattle.psci_board.specs.declared.draft.TheConstants.{MOST_CHILDREN}
use Rattle.psci_board.specs.declared.tree_text.AddressRange.{AddressRange}
use Rattle.psci_board.specs.psci_abi.declared.registers.Format.{Format}
use Rattle.psci_board.specs.psci_abi.declared.registers.Format.TheVariants.{Extended, Original}

-- Reading -----------------------------------------------------------------------------------------
-- Reading a board text from left to right. What is read is a value and the bytes after it.

-- a range: two addresses with a hyphen between them
unfoldable pub range_at : List ℕ → Option ((List ℕ × List ℕ) × List ℕ)
range_at bytes = do
  from ← hex_at bytes
  dash ← literal_at (codes "-") from.1
  to ← hex_at dash
  Some ((from.0, to.0), to.1)

-- What stands at the front, and then what go reads.
abbrev pub then_more : {A : Type 0} → List ℕ → (List ℕ → List A × List ℕ) → Option (A × List ℕ)
    → List A × List ℕ
then_more bytes go None = ([], bytes)
then_more bytes go (Some x) = (x.0 ∷ (go x.1).0, (go x.1).1)

-- Items after a space each, as many as there are, but n at most.
unfoldable pub at_most : {A : Type 0} → (List ℕ → Option (A × List ℕ)) → ℕ → List ℕ
    → List A × List ℕ
at_most item zero bytes = ([], bytes)
at_most item (suc n) bytes = then_more bytes (at_most item n) (spaced_at item bytes)

-- Items after a space each, as many as there are. Each takes a byte or more.
unfoldable pub more_at : {A : Type 0} → (List ℕ → Option (A × List ℕ)) → List ℕ → List A × List ℕ
more_at item bytes = at_most item (length bytes) bytes

-- items between brackets, one or more
unfoldable pub list_at : {A : Type 0} → (List ℕ → Option (A × List ℕ)) → List ℕ
    → Option (List A × List ℕ)
list_at item bytes = do
  open_ ← literal_at (codes "(") bytes
  first ← item open_
  let others = more_at item first.1
  close ← literal_at (codes ")") others.1
  Some (first.0 ∷ others.0, close)

-- how many, and the bytes after them
abbrev pub count_and_rest : {A : Type 0} → List A × List ℕ → ℕ × List ℕ
count_and_rest x = (length x.0, x.1)

-- the bytes after it
abbrev pub bytes_after : {A : Type 0} → A × List ℕ → List ℕ
bytes_after x = x.1

-- a bracket is opened
abbrev pub starts_list : List ℕ → Bool
starts_list bytes = slice_index bytes 0 == 40

-- a member: a group where a bracket is opened, else a number
unfoldable pub member_at : List ℕ → Option (Member × List ℕ)
member_at bytes = if starts_list bytes
    then (do
      ns ← list_at number_at bytes
      Some (Group ns.0, ns.1))
    else (do
      n ← number_at bytes
      Some (Cluster n.0, n.1))

-- a tree: members where a bracket is opened, else a number
unfoldable pub tree_at : List ℕ → Option (TreeText × List ℕ)
tree_at bytes = if starts_list bytes
    then (do
      ms ← list_at member_at bytes
      Some (Members ms.0, ms.1))
    else (do
      n ← number_at bytes
      Some (One n.0, n.1))

-- the last part, which is all that is left: the name of a format, or nothing
abbrev pub format_at : List ℕ → Option (Option Format)
format_at bytes =
    if length bytes == 0 then Some None
    else (if bytes_eq bytes (codes " format original") then Some (Some Original)
    else (if bytes_eq bytes (codes " format extended") then Some (Some Extended)
    else None))

-- the whole text
unfoldable pub board_text : List ℕ → Option BoardText
board_text bytes = do
  tree ← tree_at bytes
  rest ← literal_at (codes " exec") tree.1
  first ← spaced_at range_at rest
  let others = more_at range_at first.1
  rest ← literal_at (codes " boot ") others.1
  boot ← hex_at rest
  rest ← literal_at (codes " starts ") boot.1
  starts ← number_at rest
  rest ← literal_at (codes " lives ") starts.1
  lives ← number_at rest
  format ← format_at lives.1
  Some (record {
    tree = tree.0;
    ranges = first.0 ∷ others.0;
    boot = boot.0;
    starts = starts.0;
    lives = lives.0;
    format = format;
  })

-- Verdict -----------------------------------------------------------------------------------------

-- a member is a list
abbrev pub is_group : Member → Bool
is_group (Cluster n) = false
is_group (Group ns) = true

-- the numbers of a member
abbrev pub numbers_in : Member → List ℕ
numbers_in (Cluster n) = n ∷ []
numbers_in (Group ns) = ns

-- the numbers of a tree, from left to right: the cores of each node of level 1
abbrev pub clusters : TreeText → List ℕ
clusters (One n) = n ∷ []
clusters (Members ms) = flat_map numbers_in ms

-- how many children each node has, level by level from 1 up
abbrev pub levels_of : TreeText → List (List ℕ)
levels_of (One n) = (n ∷ []) ∷ []
levels_of (Members ms) =
    if list_any is_group ms
    then flat_map numbers_in ms ∷ map (λ m. length (numbers_in m)) ms ∷ (length ms ∷ []) ∷ []
    else flat_map numbers_in ms ∷ (length ms ∷ []) ∷ []

-- the outer list has numbers and lists as members
abbrev pub is_uneven : TreeText → Bool
is_uneven (One n) = false
is_uneven (Members ms) = list_any is_group ms && list_any (λ m. not (is_group m)) ms

-- no node, or too many, below a node
abbrev pub is_out_of_width : ℕ → Bool
is_out_of_width n = n == 0 || nat_lt MOST_CHILDREN n

-- a node has no child, or more than it may have
abbrev pub is_too_wide : TreeText → Bool
is_too_wide t = list_any (λ w. list_any is_out_of_width w) (levels_of t)

-- the range of two addresses, given by their digits
abbrev pub range_of : List ℕ × List ℕ → AddressRange
range_of r = record { start = digits_value 16 r.0; end = digits_value 16 r.1 }

-- the format of power state words: the original one, where a text names none
abbrev pub format_or_original : Option Format → Format
format_or_original None = Original
format_or_original (Some format) = format

-- the board of a text of the grammar
abbrev pub board_in : BoardText → BoardValue
board_in t = record {
  levels = levels_of t.tree;
  ranges = map range_of t.ranges;
  boot = digits_value 16 t.boot;
  starts = t.starts;
  lives = t.lives;
  format = format_or_original t.format;
}

-- what decides whether a text has a board
abbrev pub draft_in : BoardText → BoardDraft
draft_in t = let b = board_in t in record {
  is_uneven = is_uneven t.tree;
  is_too_wide = is_too_wide t.tree;
  cores = sum (clusters t.tree);
  has_bad_range = has_bad_range (length b.ranges) b.ranges;
  may_boot = may_enter b b.boot;
  starts = b.starts;
  lives = b.lives;
}

-- the board, or the first fault
abbrev pub verdict : BoardText → Result BoardValue BoardFault
verdict t = unless (first_fault (draft_in t)) (board_in t)

-- the verdict, where the text is of the grammar
abbrev pub verdict_or : Option BoardText → Result BoardValue BoardFault
verdict_or None = Err Grammar
verdict_or (Some t) = verdict t

-- the board of the bytes, or the first fault
unfoldable pub board_of : List ℕ → Result BoardValue BoardFault
board_of bytes = verdict_or (board_text bytes)

-- What was answered is what the text says. Memory is answered only where there is no fault.
abbrev pub Answers : Result BoardValue BoardFault → Result BoardValue BoardFault → Type 0
Answers (Ok b) said = said ≡ Ok b
Answers (Err Memory) said = IsOk said
Answers (Err fault) said = said ≡ Err fault
