-- Granted depths, as phases change: a path is cleared, or a core that stops claims. And what holds
-- of values, by what it is read from, and of values of which one core's were updated.
use Rattle.std.specs.Prelude.{slice_index}
use Rattle.psci_board.specs.Board.{WordLaws}
use Rattle.psci_state.specs.Cores.{asks, IsActivity}
use Rattle.psci_messages.specs.Claim.{BelowLaws, ClaimLaws, LastCoreLaws, OffLaws, OwnLaws}
use Rattle.psci_messages.specs.Claim.{PlatformLaws}
use Rattle.psci_messages.specs.Message.{PartByPart}
use Rattle.psci_fw_spec.specs.Invariant.{view}
use Rattle.psci_fw_spec.proofs.Words.{◌+◌, ◌<◌, ◌∙◌, ◌≡◌, ◌≤◌, activity_of, AreAwake, AreClaims}
use Rattle.psci_fw_spec.proofs.Words.{AreValues, arith, Away, BoardValue, cases_eq, claimed_or}
use Rattle.psci_fw_spec.proofs.Words.{cleared, cores, domain_of, false, granted_with, height}
use Rattle.psci_fw_spec.proofs.Words.{if◌then◌else◌, inl, inr, is_all_away, is_away, is_expected}
use Rattle.psci_fw_spec.proofs.Words.{is_some, IsAsk, IsPhase, known, least_ask, List, nat_le}
use Rattle.psci_fw_spec.proofs.Words.{nat_tests, None, Opening, Option, Part, PathLaws, phase}
use Rattle.psci_fw_spec.proofs.Words.{Phase, Platform, PowerView, Running, slice_get, subst, suc}
use Rattle.psci_fw_spec.proofs.Words.{SuspendMode, sym, true, unless_pending, up, updated}
use Rattle.psci_fw_spec.proofs.Words.{Values, with_phase, zero, ℕ}

-- What cores ask of the domains on their paths, by their phases -----------------------------------

-- what is known of a board and of the claims on its domains
pub record Known (b : BoardValue) : Type 0 where
  pub paths : PathLaws b
  pub words : WordLaws b
  pub below : (v : PowerView) (core level : ℕ) → BelowLaws b v core level
  pub claims : (v : PowerView) (core : ℕ) (wanted : ℕ → ℕ) → ClaimLaws b v core wanted
  pub platform : (v : PowerView) (core : ℕ) → core < cores b → PlatformLaws b v core
  pub own : (v : PowerView) (core : ℕ) (ask : List ℕ) → IsAsk ask → OwnLaws b v core ask
  pub off : (v : PowerView) (core : ℕ) → OffLaws b v core
  pub last_core : (v : PowerView) (core : ℕ) (ask : List ℕ) → core < cores b
      → LastCoreLaws b v core ask
  pub parts : (ps : List Part) → PartByPart ps → AreClaims ps

-- Paths ---------------------------------------------------------------------------------------

-- the paths of two cores that meet at a level are one at the next level
pub joined : (b : BoardValue) (x y level : ℕ) → PathLaws b → up b level x ≡ up b level y
    → up b (level + 1) x ≡ up b (level + 1) y
joined b x y level paths at = grind (arith, paths.joined x y level at)

-- a core beside another one's domain is another core
pub apart : (b : BoardValue) (x y c level : ℕ) → (up b level x ≡ up b level c → ⊥)
    → up b level y ≡ up b level x → y ≡ c → ⊥
apart b x y c level beside at same = beside (cc)

-- cores with one place on level 0 are one core
pub alone : (b : BoardValue) (x y : ℕ) → PathLaws b → up b 0 x ≡ up b 0 y → x ≡ y
alone b x y paths at = grind (arith, paths.core x, paths.core y)

-- Asks ----------------------------------------------------------------------------------------

-- the depth that a core of this phase asks of its domain of this level
abbrev pub asks_at : BoardValue → Phase → ℕ → ℕ
asks_at b phase level = if nat_le level (height b) then asks (activity_of phase) level else 0

pub asked_within : (b : BoardValue) (phase : Phase) (level : ℕ) → level ≤ height b
    → asks_at b phase level ≡ asks (activity_of phase) level
asked_within b phase level h = grind (arith, nat_tests)

-- a core that runs or is pending asks nothing
pub asked_running : (b : BoardValue) (level : ℕ) → asks_at b Running level ≡ 0
asked_running b level = grind arith

-- a core that is away asks for power-down
pub asked_away : (b : BoardValue) (level : ℕ) → level ≤ height b → asks_at b Away level ≡ 3
asked_away b level h = grind (arith, nat_tests)

-- what a core of this phase asks of all levels
abbrev pub IsAsking : Phase → Type 0
IsAsking phase = IsActivity (activity_of phase)

pub phase_asks : (b : BoardValue) (phase : Phase) → IsPhase b phase → IsAsking phase
phase_asks b p is = grind arith

ask-most : (ask : List ℕ) (m : ℕ) → IsAsk ask → slice_index ask m ≤ 3
ask-most ask zero is = is.most
ask-most ask (suc m) is = grind (arith, is.falls m, ask-most ask m is)

-- no core asks for more than power-down
pub asked-most : (b : BoardValue) (phase : Phase) (level : ℕ) → IsAsking phase
    → level ≤ height b → asks_at b phase level ≤ 3
asked-most b phase level is h = grind (arith, nat_tests, ask-most)

-- what a core asks never grows upwards
pub asked-fall : (b : BoardValue) (phase : Phase) (level : ℕ) → IsAsking phase
    → level < height b → asks_at b phase (level + 1) ≤ asks_at b phase level
asked-fall b phase level is h = grind (arith, nat_tests)

-- Below a domain ------------------------------------------------------------------------------

-- every core below a core's domain of a level is off or going off
abbrev pub IsAllOff : BoardValue → (ℕ → Phase) → ℕ → ℕ → Type 0
IsAllOff b phase c level =
    (x : ℕ) → x < cores b → up b level x ≡ up b level c → is_away (activity_of (phase x)) ≡ true

-- the least ask of the cores below a core's domain of a level
pub record IsLeast (b : BoardValue) (phase : ℕ → Phase) (c level m : ℕ) : Type 0 where
  pub most : m ≤ 3
  pub below : (x : ℕ) → x < cores b → up b level x ≡ up b level c → m ≤ asks_at b (phase x) level
  pub above : (n : ℕ) → n ≤ 3
      → ((x : ℕ) → x < cores b → up b level x ≡ up b level c → n ≤ asks_at b (phase x) level)
      → n ≤ m

pub one_least : (b : BoardValue) (phase : ℕ → Phase) (c level m n : ℕ)
    → IsLeast b phase c level m → IsLeast b phase c level n → m ≡ n
one_least b phase c level m n i j =
    omega (arith, i.above n j.most j.below, j.above m i.most i.below)

-- the same over another core's path that meets there
pub least_at : (b : BoardValue) (phase : ℕ → Phase) (c x level m : ℕ)
    → up b level x ≡ up b level c → IsLeast b phase c level m → IsLeast b phase x level m
least_at b phase c x level m at i = grind arith

-- no phase below the domain has changed
pub least_beside : (b : BoardValue) (old new : ℕ → Phase) (c level m : ℕ)
    → ((x : ℕ) → x < cores b → up b level x ≡ up b level c → new x ≡ old x)
    → IsLeast b old c level m → IsLeast b new c level m
least_beside b old new c level m same i = grind arith

pub least_is : (b : BoardValue) (v : Values) (c level : ℕ) → Known b
    → IsLeast b v.phase c level (least_ask b (view b v) (domain_of b c level))
unfolding view
least_is b v c level known =
    let laws = known.below (view b v) c level in
    record {
      most = laws.most;
      below = λ x h at. laws.below x h at;
      above = λ n h each. laws.above n h each;
    }

pub all_off : (b : BoardValue) (v : Values) (c level : ℕ) → Known b
    → is_all_away b (view b v) (domain_of b c level) ≡ true → IsAllOff b v.phase c level
unfolding view
all_off b v c level known e = λ x h at. (known.below (view b v) c level).off e x h at

pub off_all : (b : BoardValue) (v : Values) (c level : ℕ) → Known b
    → IsAllOff b v.phase c level → is_all_away b (view b v) (domain_of b c level) ≡ true
unfolding view
off_all b v c level known each = (known.below (view b v) c level).all each

-- Granting ----------------------------------------------------------------------------------------

-- no phase but this core's has changed
abbrev pub ChangedAt : (ℕ → Phase) → (ℕ → Phase) → ℕ → Type 0
ChangedAt old new c = (x : ℕ) → (x ≡ c → ⊥) → new x ≡ old x

-- Bounds --------------------------------------------------------------------------------------

-- what bounds granted depths, in every life
pub record AreBounded (b : BoardValue) (phase : ℕ → Phase) (granted : ℕ → ℕ → ℕ) : Type 0 where
  pub nested : (c level : ℕ) → c < cores b → level < height b
      → granted (level + 1) (up b (level + 1) c) ≤ granted level (up b level c)
  pub asked : (c : ℕ) → c < cores b → granted 0 c ≤ asks_at b (phase c) 0

-- nothing is granted on the path of a core that asks nothing of itself
pub none_granted : (b : BoardValue) (phase : ℕ → Phase) (granted : ℕ → ℕ → ℕ) (c level : ℕ)
    → PathLaws b → AreBounded b phase granted → c < cores b → asks_at b (phase c) 0 ≡ 0
    → level ≤ height b → granted level (up b level c) ≡ 0
none_granted b phase granted c zero paths bounded h none i =
    grind (arith, paths.core c, bounded.asked c h)
none_granted b phase granted c (suc level) paths bounded h none i = grind (
  arith,
  bounded.nested c level h,
  none_granted b phase granted c level paths bounded h none,
)

-- the path of a core is cleared, whatever its phase becomes
pub bounded_cleared : (b : BoardValue) (old new : ℕ → Phase) (granted : ℕ → ℕ → ℕ) (c : ℕ)
    → PathLaws b → ChangedAt old new c → AreBounded b old granted
    → AreBounded b new (cleared b c granted)
bounded_cleared b old new granted c paths changed g = record {
  nested = λ x level h i.
      grind (arith, nat_tests, joined b x c level paths, g.nested x level h i);
  asked = λ x h. grind (arith, nat_tests, g.asked x h, changed x, paths.core c);
}

-- a core that asked nothing of itself may come to ask anything
pub bounded_left : (b : BoardValue) (old new : ℕ → Phase) (granted : ℕ → ℕ → ℕ) (c : ℕ)
    → PathLaws b → ChangedAt old new c → asks_at b (old c) 0 ≡ 0 → AreBounded b old granted
    → AreBounded b new granted
bounded_left b old new granted c paths changed none g = record {
  nested = g.nested;
  asked = λ x h. grind (arith, g.asked x h, changed x);
}

-- Equations -----------------------------------------------------------------------------------

-- what determines granted depths, while the life is not halting
pub record AreGranted (b : BoardValue) (mode : SuspendMode) (phase : ℕ → Phase)
    (granted : ℕ → ℕ → ℕ) : Type 0 where
  pub own : (c : ℕ) → c < cores b → granted 0 c ≡ asks_at b (phase c) 0
  pub away : (c level : ℕ) → c < cores b → level ≤ height b → IsAllOff b phase c level
      → granted level (up b level c) ≡ 3
  pub least : mode ≡ Platform → (c level : ℕ) → c < cores b → level ≤ height b
      → IsLeast b phase c level (granted level (up b level c))

-- beside the path of the core that changed power-down is granted as before
away_beside : (b : BoardValue) (mode : SuspendMode) (old new : ℕ → Phase) (granted : ℕ → ℕ → ℕ)
    (c x level : ℕ) → ChangedAt old new c → AreGranted b mode old granted → x < cores b
    → level ≤ height b → IsAllOff b new x level → (up b level x ≡ up b level c → ⊥)
    → granted level (up b level x) ≡ 3
away_beside b mode old new granted c x level changed g h i all beside = g.away x level h i
    (λ y k at. grind (arith, changed y (apart b x y c level beside at), all y k at))

-- and so is the least ask, in platform-coordinated mode
beside_least : (b : BoardValue) (old new : ℕ → Phase) (c x level m : ℕ) → ChangedAt old new c
    → IsLeast b old x level m → (up b level x ≡ up b level c → ⊥) → IsLeast b new x level m
beside_least b old new c x level m changed is beside =
    least_beside b old new x level m (λ y k at. changed y (apart b x y c level beside at)) is

-- a core that is on, and asks nothing, has its path cleared
pub granted_cleared : (b : BoardValue) (mode : SuspendMode) (old new : ℕ → Phase)
    (granted : ℕ → ℕ → ℕ) (c : ℕ) → PathLaws b → c < cores b → ChangedAt old new c
    → ((level : ℕ) → asks_at b (new c) level ≡ 0) → is_away (activity_of (new c)) ≡ false
    → AreGranted b mode old granted → AreGranted b mode new (cleared b c granted)
granted_cleared b mode old new granted c paths on changed none active g = record {
  own = λ x h. grind (arith, nat_tests, g.own x h, changed x, paths.core c, none 0);
  away = λ x level h i all. grind (
    arith,
    nat_tests,
    all c on,
    away_beside b mode old new granted c x level changed g h i all,
  );
  least = λ m x level h i.
      let here : up b level x ≡ up b level c → IsLeast b new x level 0 = λ at. record {
        most = omega arith;
        below = λ y k e. omega arith;
        above = λ n k each. omega (arith, each c on (sym at), none level);
      } in
      let beside = beside_least b old new c x level _ changed (g.least m x level h i) in
      grind (arith, nat_tests, here, beside);
}

-- Claims --------------------------------------------------------------------------------------

-- what a stop wants of the domains on its core's path, by the phases after it
pub record AreWanted (b : BoardValue) (mode : SuspendMode) (phase : ℕ → Phase)
    (granted : ℕ → ℕ → ℕ) (c : ℕ) (want : ℕ → ℕ) : Type 0 where
  pub falls : (level : ℕ) → level < height b → want (level + 1) ≤ want level
  -- no more of a domain than was granted to each domain below it and beside the path
  pub beside : (x level : ℕ) → x < cores b → level < height b
      → up b (level + 1) x ≡ up b (level + 1) c → (up b level x ≡ up b level c → ⊥)
      → want (level + 1) ≤ granted level (up b level x)
  pub own : want 0 ≡ asks_at b (phase c) 0
  pub away : (level : ℕ) → level ≤ height b → IsAllOff b phase c level → want level ≡ 3
  pub least : mode ≡ Platform → (level : ℕ) → level ≤ height b
      → IsLeast b phase c level (want level)

-- these parts leave what is wanted on the path
abbrev pub AreLaid : BoardValue → (ℕ → ℕ → ℕ) → ℕ → List Part → (ℕ → ℕ) → Type 0
AreLaid b granted c parts want =
    (level : ℕ) → level ≤ height b
    → claimed_or (slice_get parts level) (granted level (up b level c)) ≡ want level

-- what is granted to the domains of a level, on the path and beside it
with_at : (b : BoardValue) (granted : ℕ → ℕ → ℕ) (c : ℕ) (parts : List Part) (want : ℕ → ℕ)
    (level x : ℕ) → AreLaid b granted c parts want → level ≤ height b
    → up b level x ≡ up b level c → granted_with b c parts granted level (up b level x) ≡ want level
with_at b granted c parts want level x is i at = grind (arith, nat_tests, is level i)

with_else : (b : BoardValue) (granted : ℕ → ℕ → ℕ) (c : ℕ) (parts : List Part) (level x : ℕ)
    → (up b level x ≡ up b level c → ⊥)
    → granted_with b c parts granted level (up b level x) ≡ granted level (up b level x)
with_else b granted c parts level x beside = grind (arith, nat_tests)

pub nested_laid : (b : BoardValue) (mode : SuspendMode) (old new : ℕ → Phase)
    (granted : ℕ → ℕ → ℕ) (c : ℕ) (parts : List Part) (want : ℕ → ℕ) → PathLaws b
    → AreLaid b granted c parts want → AreWanted b mode new granted c want
    → AreBounded b old granted → (x level : ℕ) → x < cores b → level < height b
    → granted_with b c parts granted (level + 1) (up b (level + 1) x)
    ≤ granted_with b c parts granted level (up b level x)
nested_laid b mode old new granted c parts want paths is w g x level h i = grind (
  arith,
  nat_tests,
  is level,
  is (level + 1),
  w.falls level i,
  w.beside x level h i,
  joined b x c level paths,
  g.nested x level h i,
)

pub granted_laid : (b : BoardValue) (mode : SuspendMode) (old new : ℕ → Phase)
    (granted : ℕ → ℕ → ℕ) (c : ℕ) (parts : List Part) (want : ℕ → ℕ) → PathLaws b
    → ChangedAt old new c → AreLaid b granted c parts want
    → AreWanted b mode new granted c want → AreGranted b mode old granted
    → AreGranted b mode new (granted_with b c parts granted)
granted_laid b mode old new granted c parts want paths changed is w g = record {
  own = λ x h. grind (arith, nat_tests, is 0, w.own, g.own x h, changed x, paths.core c);
  away = λ x level h i all. elim (cases_eq (up b level x) (up b level c)) [
    | inl at ↦ with_at b granted c parts want level x is i at
        ∙ w.away level i (λ y k e. all y k (cc))
    | inr beside ↦ with_else b granted c parts level x beside
        ∙ away_beside b mode old new granted c x level changed g h i all beside
  ];
  least = λ m x level h i. elim (cases_eq (up b level x) (up b level c)) [
    | inl at ↦ subst (IsLeast b new x level) (sym (with_at b granted c parts want level x is i at))
        (least_at b new c x level _ at (w.least m level i))
    | inr beside ↦ subst (IsLeast b new x level) (sym (with_else b granted c parts level x beside))
        (beside_least b old new c x level _ changed (g.least m x level h i) beside)
  ];
}

-- Values --------------------------------------------------------------------------------------

pub bounded_of : (b : BoardValue) (v : Values) → AreValues b v → AreBounded b v.phase v.granted
bounded_of b v are = record { nested = are.nested; asked = are.asked }

pub granted_of : (b : BoardValue) (v : Values) → Known b → AreAwake b v
    → AreGranted b v.mode v.phase v.granted
granted_of b v known awake = record {
  own = awake.own;
  away = λ c level on h all. awake.away c level on h (off_all b v c level known all);
  least = λ m c level on h. subst (IsLeast b v.phase c level)
      (sym (awake.least m c level on h)) (least_is b v c level known);
}

pub awake_from : (b : BoardValue) (v : Values) → Known b
    → ((c : ℕ) → is_some (v.opening c) ≡ is_expected (v.phase c))
    → AreGranted b v.mode v.phase v.granted → AreAwake b v
awake_from b v known opening g = record {
  opening = opening;
  own = g.own;
  away = λ c level on h e. g.away c level on h (all_off b v c level known e);
  least = λ m c level on h. one_least b v.phase c level _ _ (g.least m c level on h)
      (least_is b v c level known);
}

-- phases that are the same at each core
pub same_phases : (b : BoardValue) (v : Values) (phase : ℕ → Phase)
    → ((k : ℕ) → v.phase k ≡ phase k) → AreValues b v → AreValues b (record v { phase = phase })
same_phases b v phase same are =
    subst (AreValues b) (λ i. record v { phase = λ k. same k i }) are

-- One core's values updated --------------------------------------------------------------------

pub updated_at : {A : Type 0} (f : ℕ → A) (c : ℕ) (x : A) → updated f c x c ≡ x
updated_at f c x = grind (arith, nat_tests)

pub updated_else : {A : Type 0} (f : ℕ → A) (c : ℕ) (x : A) (k : ℕ) → (k ≡ c → ⊥)
    → updated f c x k ≡ f k
updated_else f c x k other = grind (arith, nat_tests)

-- what holds of the new value and of each old one holds of each value
pub updated_each : {A : Type 0} (P : ℕ → A → Type 0) (f : ℕ → A) (c : ℕ) (x : A) → P c x
    → ((k : ℕ) → P k (f k)) → (k : ℕ) → P k (updated f c x k)
updated_each P f c x new old k = grind (arith, nat_tests)

-- the same of two functions, each updated at one core
pub both_updated : {A B : Type 0} (P : A → B → Type 0) (f : ℕ → A) (g : ℕ → B) (c : ℕ) (x : A)
    (y : B) → P x y → ((k : ℕ) → P (f k) (g k)) → (k : ℕ)
    → P (updated f c x k) (updated g c y k)
both_updated P f g c x y new old k = grind arith

-- a call leaves its core's phase, unless the core is pending
pub left_at : (v : Values) (c : ℕ) (left : Phase) → unless_pending (v.phase c) left ≡ left
    → (with_phase c left v).phase c ≡ left
left_at v c left e = grind (arith, nat_tests)

pub left_else : (v : Values) (c : ℕ) (left : Phase)
    → ChangedAt v.phase (with_phase c left v).phase c
left_else v c left x other = grind (arith, nat_tests)

pub left_asks : (b : BoardValue) (v : Values) (c : ℕ) (left : Phase)
    → unless_pending (v.phase c) left ≡ left → IsAsking left → ((y : ℕ) → IsPhase b (v.phase y))
    → (y : ℕ) → IsAsking ((with_phase c left v).phase y)
left_asks b v c left e asks is y = grind (arith, phase_asks b (v.phase y) (is y))

-- a core that ran is left as the call leaves it, and asked nothing
pub ran_left : (p left : Phase) → p ≡ Running → unless_pending p left ≡ left
ran_left p left runs = grind arith

pub ran_asks : (b : BoardValue) (p : Phase) → p ≡ Running → asks_at b p 0 ≡ 0
ran_asks b p runs = grind arith

-- a core that nothing waits for is away once it stops
pub parked_left : (p : Phase) (o : Option Opening) → is_some o ≡ is_expected p → o ≡ None
    → unless_pending p Away ≡ Away
parked_left p o e none = grind arith
