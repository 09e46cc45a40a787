-- Worked examples of what was written and what was seen of a core, which was OFF, ON_PENDING and
-- ON; and of what a poll has read, and answers.
use Rattle.std.proofs.Common.{◌*◌, ◌+◌, ◌∷◌, [], arith, List}
use Rattle.std.proofs.Common.{map, negsuc, None, pos, refl, Some}
use Rattle.psci_fw_spec.specs.declared.status.Status.{Status}
use Rattle.psci_fw_spec.specs.declared.status.Status.TheVariants.{On, Off, Pending}
use Rattle.psci_status.specs.Lists.{gain, gain_from, gains, IsLast, IsLoaded, IsPolledAs, IsWord}
use Rattle.psci_status.specs.Lists.{Item, item_of, newest, row, Stands, Within}
use Rattle.psci_abi.proofs.Tables.{◌⇒◌, Gives}

abbrev written : List Status
written = On ∷ Pending ∷ Off ∷ []

-- words: the serial above the two bits of the status
items_of_words : Gives item_of
    (1 ⇒ (0, Off)
    ∷ 6 ⇒ (1, Pending)
    ∷ 8 ⇒ (2, On)
    ∷ (4 * 2305843009213693951 + 2) ⇒ (2305843009213693951, Pending) ∷ [])
items_of_words = refl

-- the word holds the last item that was written
holds_last : IsWord written 8
holds_last = refl

holds_another : ¬ (IsWord written 4) × ¬ (IsWord written 9) × ¬ (IsWord [] 1)
holds_another = search arith

within_or_not :
    -- items that were written
    Stands written (0, Off)
    × Stands written (1, Pending)
    × Stands written (2, On)
    -- another status under the serial of ON_PENDING
    × ¬ (Stands written (1, Off))
    -- what was seen: serials that rise, and items that were written
    × Within written ((2, On) ∷ (0, Off) ∷ [])
    × ¬ (Within written ((1, Pending) ∷ (1, Pending) ∷ []))
    × ¬ (Within written ((0, Off) ∷ (1, Pending) ∷ []))
within_or_not = search arith

last_or_not :
    -- the last that was written is the last that was seen, or an earlier one is
    IsLast written ((2, On) ∷ (0, Off) ∷ [])
    × ¬ (IsLast written ((1, Pending) ∷ (0, Off) ∷ []))
last_or_not = search arith

abbrev gain_of : Item × List Item → List Item
gain_of (item, items) = gain item items

-- one item more, if its serial is above the last
one_item_more : Gives gain_of
    (((0, Off), []) ⇒ ((0, Off) ∷ [])
    ∷ ((2, On), (0, Off) ∷ []) ⇒ ((2, On) ∷ (0, Off) ∷ [])
    ∷ ((2, On), (2, On) ∷ (0, Off) ∷ []) ⇒ ((2, On) ∷ (0, Off) ∷ [])
    ∷ ((1, Pending), (2, On) ∷ []) ⇒ ((2, On) ∷ []) ∷ [])
one_item_more = refl

abbrev gain_of_note : List Item × List Item → List Item
gain_of_note (note, items) = gain_from note items

-- of a note its last item alone
of_a_note : Gives gain_of_note
    (((2, On) ∷ (1, Pending) ∷ [], (0, Off) ∷ []) ⇒ ((2, On) ∷ (0, Off) ∷ [])
    ∷ ([], (0, Off) ∷ []) ⇒ ((0, Off) ∷ []) ∷ [])
of_a_note = refl

abbrev gain_of_all : List (List Item) × List (List Item) → List (List Item)
gain_of_all (items, notes) = gains items notes

-- of each core; a spent note tells nothing of any
of_each_core : Gives gain_of_all
    ((((0, Off) ∷ []) ∷ ((0, Off) ∷ []) ∷ [], map newest (written ∷ (Off ∷ []) ∷ []))
    ⇒ (((2, On) ∷ (0, Off) ∷ []) ∷ ((0, Off) ∷ []) ∷ [])
    -- of the second core alone
    ∷ (((2, On) ∷ []) ∷ ((0, Off) ∷ []) ∷ [], ((1, Pending) ∷ []) ∷ ((3, Pending) ∷ []) ∷ [])
    ⇒ (((2, On) ∷ []) ∷ ((3, Pending) ∷ (0, Off) ∷ []) ∷ [])
    ∷ (((0, Off) ∷ []) ∷ [], []) ⇒ (((0, Off) ∷ []) ∷ []) ∷ [])
of_each_core = refl

newest_items : Gives newest
    (written ⇒ ((2, On) ∷ [])
    ∷ [] ⇒ [] ∷ [])
newest_items = refl

-- the list of a core, empty beyond the last core
rows : Gives (row ((Off ∷ []) ∷ written ∷ []))
    (1 ⇒ written
    ∷ 2 ⇒ [] ∷ [])
rows = refl

abbrev seen : List (List Item)
seen = ((0, Off) ∷ []) ∷ ((0, Off) ∷ []) ∷ []

-- One load ---------------------------------------------------------------------------------------

-- of core 0; of core 1, of which two were missed; of core 1 nothing new; the first of a core
is_loaded : IsLoaded seen (((1, Pending) ∷ (0, Off) ∷ []) ∷ ((0, Off) ∷ []) ∷ []) 0 Pending
    × IsLoaded seen (((0, Off) ∷ []) ∷ ((3, On) ∷ (0, Off) ∷ []) ∷ []) 1 On
    × IsLoaded (((4, On) ∷ []) ∷ ((2, Pending) ∷ (0, Off) ∷ []) ∷ [])
    (((4, On) ∷ []) ∷ ((2, Pending) ∷ (0, Off) ∷ []) ∷ []) 1 Pending
    × IsLoaded ([] ∷ []) (((5, On) ∷ []) ∷ []) 0 On
is_loaded = (
  (1, refl, ((0, Off) ∷ [], refl), (omega arith, (tt, tt))),
  (3, refl, ((0, Off) ∷ [], refl), (omega arith, (tt, tt))),
  (2, refl, ((0, Off) ∷ [], refl), (omega arith, (tt, tt))),
  (5, refl, ([], refl), (tt, tt)),
)

loaded_otherwise :
    -- one of another core
    ¬ (IsLoaded seen (((1, On) ∷ (0, Off) ∷ []) ∷ ((1, On) ∷ (0, Off) ∷ []) ∷ []) 0 On)
    -- another status than the last; serials that do not rise
    × ¬ (IsLoaded seen seen 0 On)
    × ¬ (IsLoaded (((1, Pending) ∷ []) ∷ ((0, Off) ∷ []) ∷ [])
    (((1, Pending) ∷ []) ∷ ((0, Off) ∷ []) ∷ []) 1 Pending)
    × ¬ (IsLoaded (((1, Off) ∷ (3, On) ∷ []) ∷ []) (((1, Off) ∷ (3, On) ∷ []) ∷ []) 0 Off)
    × ¬ (IsLoaded ([] ∷ ((1, Off) ∷ (3, On) ∷ []) ∷ []) ([] ∷ ((1, Off) ∷ (3, On) ∷ []) ∷ []) 1 Off)
loaded_otherwise = search arith

-- What a poll answers ----------------------------------------------------------------------------

is_polled : IsPolledAs (Some (record { number = 1 })) seen
    (((0, Off) ∷ []) ∷ ((1, Pending) ∷ (0, Off) ∷ []) ∷ []) (record { 0 = pos 2 })
    × IsPolledAs (Some (record { number = 0 })) seen
    (((2, On) ∷ (0, Off) ∷ []) ∷ ((0, Off) ∷ []) ∷ []) (record { 0 = pos 0 })
    × IsPolledAs (Some (record { number = 1 })) seen seen (record { 0 = pos 1 })
is_polled = (
  (Pending, (1, refl, ((0, Off) ∷ [], refl), (omega arith, (tt, tt))), refl),
  (On, (2, refl, ((0, Off) ∷ [], refl), (omega arith, (tt, tt))), refl),
  (Off, (0, refl, ([], refl), (tt, tt)), refl),
)

polled_or_not :
    -- another status is answered than was read
    ¬ (IsPolledAs (Some (record { number = 1 })) seen (((0, Off) ∷ []) ∷ ((1, Pending) ∷ (0, Off) ∷
    []) ∷ []) (record { 0 = pos 1 }))
    -- the word names no core: nothing is read, and no status is answered
    × IsPolledAs None seen seen (record { 0 = negsuc 1 })
    × ¬ (IsPolledAs None seen (((1, Pending) ∷ (0, Off) ∷ []) ∷ ((0, Off) ∷ []) ∷ []) (record {
      0 =
          negsuc 1;
    }))
    × ¬ (IsPolledAs None seen seen (record { 0 = pos 1 }))
    × ¬ (IsPolledAs None seen seen (record { 0 = negsuc 2 }))
polled_or_not = search arith
