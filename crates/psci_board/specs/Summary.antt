-- What is kept of a board text while it is read, however long the text is.
use Rattle.std.specs.Prelude.{◌++◌, ◌+◌, ◌||◌, ◌∷◌, [], Bool, false, length, List, min, nat_le}
use Rattle.std.specs.Prelude.{Option, Some, take, true, ℕ}
use Rattle.psci_board.specs.declared.draft.TheConstants.{MOST_CHILDREN, MOST_CORES, MOST_RANGES}
use Rattle.psci_board.specs.declared.tree_text.AddressRange.{AddressRange}
use Rattle.psci_board.specs.Grammar.{◌>>=◌, Member, spaced_at, TreeText}
use Rattle.psci_board.specs.Grammar.Member.{Cluster, Group}
use Rattle.psci_board.specs.Grammar.TreeText.{One, Members}
use Rattle.psci_board.specs.Verdict.{is_out_of_width, more_at, range_at, range_of}

-- Numbers ------------------------------------------------------------------------------------

-- What is kept of the numbers of a tree.
pub record NumbersSummaryValue : Type 0 where
  pub first : List ℕ  -- the first 256, each above 16 as 17
  pub total : ℕ  -- their sum, or 257
  pub bad_width : Bool  -- some number is no width of a node

-- of no number
abbrev pub no_numbers : NumbersSummaryValue
no_numbers = record { first = []; total = 0; bad_width = false }

-- after one more number
abbrev pub with_number : NumbersSummaryValue → ℕ → NumbersSummaryValue
with_number s n = record {
  first = take MOST_CORES (s.first ++ min n (MOST_CHILDREN + 1) ∷ []);
  total = min (s.total + n) (MOST_CORES + 1);
  bad_width = s.bad_width || is_out_of_width n;
}

-- after these numbers
unfoldable pub with_numbers : NumbersSummaryValue → List ℕ → NumbersSummaryValue
with_numbers s [] = s
with_numbers s (n ∷ ns) = with_numbers (with_number s n) ns

-- The tree -----------------------------------------------------------------------------------

-- What is kept of a tree.
pub record TreeSummaryValue : Type 0 where
  pub numbers : NumbersSummaryValue
  pub sizes : List ℕ  -- how many numbers each of the first 16 members has, above 16 as 17
  pub bad_width : Bool  -- there are more members than 16, or the size of one is no width of a node
  pub has_cluster : Bool  -- a member is a number
  pub has_group : Bool  -- a member is a list

-- nothing of a list yet, as of a tree that is a single number
abbrev pub no_members : TreeSummaryValue
no_members = record {
  numbers = no_numbers;
  sizes = [];
  bad_width = false;
  has_cluster = false;
  has_group = false;
}

-- after one more member, of this number of clusters
abbrev pub with_size : TreeSummaryValue → ℕ → TreeSummaryValue
with_size s size = record s {
  sizes = take MOST_CHILDREN (s.sizes ++ min size (MOST_CHILDREN + 1) ∷ []);
  bad_width = s.bad_width || nat_le MOST_CHILDREN (length s.sizes) || is_out_of_width size;
}

-- after one more member
abbrev pub with_member : TreeSummaryValue → Member → TreeSummaryValue
with_member s (Cluster n) =
    record (with_size s 1) { numbers = with_number s.numbers n; has_cluster = true }
with_member s (Group ns) =
    record (with_size s (length ns)) { numbers = with_numbers s.numbers ns; has_group = true }

-- after these members
unfoldable pub with_members : TreeSummaryValue → List Member → TreeSummaryValue
with_members s [] = s
with_members s (m ∷ ms) = with_members (with_member s m) ms

-- what is kept of a tree
abbrev pub tree_summary : TreeText → TreeSummaryValue
tree_summary (One n) = record no_members { numbers = with_number no_numbers n }
tree_summary (Members ms) = with_members no_members ms

-- what is kept of something, and the bytes after it
abbrev pub value_and_rest : {A B : Type 0} → (A → B) → A × List ℕ → B × List ℕ
value_and_rest f x = (f x.0, x.1)

-- Ranges -------------------------------------------------------------------------------------

-- What is kept of the ranges.
pub record RangesSummaryValue : Type 0 where
  pub first : List AddressRange  -- the first four
  pub faulty : Bool  -- there are more than four, or one of them holds no address

-- of no range
abbrev pub no_ranges : RangesSummaryValue
no_ranges = record { first = []; faulty = false }

-- after one more range
abbrev pub with_range : RangesSummaryValue → AddressRange → RangesSummaryValue
with_range s r = record {
  first = take MOST_RANGES (s.first ++ r ∷ []);
  faulty = s.faulty || nat_le MOST_RANGES (length s.first) || nat_le r.end r.start;
}

-- what is kept of ranges that are given by their digits
unfoldable pub with_ranges : RangesSummaryValue → List (List ℕ × List ℕ) → RangesSummaryValue
with_ranges s [] = s
with_ranges s (r ∷ rs) = with_ranges (with_range s (range_of r)) rs

-- ranges after a space each, one or more
unfoldable pub ranges_at : List ℕ → Option (List (List ℕ × List ℕ) × List ℕ)
ranges_at bytes = do
  first ← spaced_at range_at bytes
  let others = more_at range_at first.1
  Some (first.0 ∷ others.0, others.1)
