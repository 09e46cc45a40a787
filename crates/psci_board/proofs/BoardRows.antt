-- What is no board and no node.
use Rattle.std.proofs.Common.{◌≡◌, ℕ, true, false, ◌∷◌, [], ◌++◌, refl, arith}
use Rattle.std.specs.Prelude.{Some, None, map, replicate}
use Rattle.psci_board.specs.declared.tree_text.AddressRange.{AddressRange}
use Rattle.psci_board.specs.Board.{IsBoard, HasNode, core_at, nodes, may_enter, is_width}
use Rattle.psci_board.proofs.Boards.{at, board, uneven}

-- Boards ----------------------------------------------------------------------------------------

pub no_level : IsBoard (board []) → ⊥
no_level h = omega (arith, h.low)

pub four_levels :
    IsBoard (board ((1 ∷ []) ∷ (1 ∷ []) ∷ (1 ∷ []) ∷ (1 ∷ []) ∷ [])) → ⊥
four_levels h = omega (arith, h.high)

-- two clusters, and a system of three children
pub levels_apart : IsBoard (board ((2 ∷ 2 ∷ []) ∷ (3 ∷ []) ∷ [])) → ⊥
levels_apart h = omega (arith, h.tree.0)

-- sixteen clusters of 16 cores in one group, and one more core
pub too_many_cores : IsBoard (board ((replicate 16 16 ++ 1 ∷ []) ∷ (16 ∷ 1 ∷ []) ∷ (2 ∷ []) ∷ []))
    → ⊥
too_many_cores h = omega (arith, h.tree.1)

pub no_life : IsBoard (record uneven { lives = 0 }) → ⊥
no_life h = omega (arith, h.some_lives)

pub too_many_lives : IsBoard (record uneven { lives = 65536 }) → ⊥
too_many_lives h = omega (arith, h.lives)

pub no_start : IsBoard (record uneven { starts = 0 }) → ⊥
no_start h = omega (arith, h.some_starts)

pub too_many_starts : IsBoard (record uneven { starts = 4294967296 }) → ⊥
too_many_starts h = omega (arith, h.starts)

pub boot_outside : IsBoard (record uneven { boot = 0x40100000 }) → ⊥
boot_outside h = let boot = h.boot in cc

-- an address in a range, but not aligned
pub boot_unaligned : IsBoard (record uneven { boot = 0x40000002 }) → ⊥
boot_unaligned h = let boot = h.boot in cc

-- how many children a node may have
pub widths : map is_width (0 ∷ 1 ∷ 16 ∷ 17 ∷ []) ≡ false ∷ true ∷ true ∷ false ∷ []
widths = refl

-- Ranges --------------------------------------------------------------------------------------

abbrev range : ℕ → ℕ → AddressRange
range start end = record { start = start; end = end }

-- the higher one first, and one in the other
pub ranges_in_any_order : map (may_enter (record uneven {
  ranges = range 0x50000000 0x50001000 ∷ range 0x40000000 0x40100000
      ∷ range 0x40001000 0x40002000 ∷ range 0x10 0x14 ∷ [];
}))
    (0x10 ∷ 0x14 ∷ 0xc ∷ 0x40000000 ∷ 0x40001000 ∷ 0x40002000 ∷ 0x400ffffc ∷ 0x40100000
    ∷ 0x50000000 ∷ 0x50000ffe ∷ 0x50000ffc ∷ 0x50001000 ∷ [])
    ≡ true ∷ false ∷ false ∷ true ∷ true ∷ true ∷ true ∷ false ∷ true ∷ false ∷ true ∷ false ∷ []
ranges_in_any_order = refl

-- Nodes -----------------------------------------------------------------------------------------

pub last_cluster : HasNode uneven (at 1 4)
last_cluster = record { level = omega arith; place = omega arith }

pub after_the_last_cluster : HasNode uneven (at 1 5) → ⊥
after_the_last_cluster h = omega (arith, h.place)

pub above_the_system : HasNode uneven (at 4 0) → ⊥
above_the_system h = omega (arith, h.level)

pub cores_by_number : core_at uneven 0 ∷ core_at uneven 10 ∷ core_at uneven 11 ∷ []
    ≡ Some (record { number = 0 }) ∷ Some (record { number = 10 }) ∷ None ∷ []
cores_by_number = refl

pub sizes : map (nodes uneven) (0 ∷ 1 ∷ 2 ∷ 3 ∷ []) ≡ 11 ∷ 5 ∷ 2 ∷ 1 ∷ []
sizes = refl
