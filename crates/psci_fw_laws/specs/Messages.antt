-- What holds of every message that was sent.
use Rattle.std.specs.List.{sum_by}
use Rattle.std.specs.Prelude.{◌&&◌, ◌*◌, ◌+◌, ◌<◌, ◌==◌, ◌≡◌, ◌≤◌, ◌⊎◌, Bool, false}
use Rattle.std.specs.Prelude.{if◌then◌else◌, length, List, None, Option, slice_get, Some, true}
use Rattle.std.specs.Prelude.{ℕ}
use Rattle.psci_board.specs.Board.{below, BoardValue, cores, has_node, height, is_path_place, up}
use Rattle.psci_messages.specs.Message.{AckValue, ArePartsOf, MessageValue}
use Rattle.psci_messages.specs.Slots.{is_kind, OfCore, OfSystem, Slot}
use Rattle.psci_messages.specs.declared.kind.Kind.{Kind}
use Rattle.psci_messages.specs.declared.kind.Kind.TheVariants.{Down, Off, Reset, Start}
use Rattle.psci_messages.specs.declared.part.Part.{Part}
use Rattle.psci_messages.specs.psci_state.PowerState.{power_down}
use Rattle.psci_messages.specs.psci_state.Cores.{asks}
use Rattle.psci_fw_spec.specs.PowerCalls.{is_on}
use Rattle.psci_fw_spec.specs.Phases.{activity_of, Away, Pending, Phase, Running, Suspended}
use Rattle.psci_fw_spec.specs.Values.{Values}
use Rattle.psci_fw_spec.specs.declared.status.Status.{Status}

-- What an acknowledgement says was carried out of the last claim on a domain ----------------------

-- The acknowledgement is of a Down of a core below the domain, and says that its part for the
-- domain was applied. The part is the last claim: something is granted to the domain, and no core
-- below has entered since. It does not matter how deep the part is, of which level the domain, or
-- whether another part came too late.
pub record IsCarriedOut (b : BoardValue) (v : Values) (a : AckValue) (level place : ℕ)
    : Type 0 where
  pub message : MessageValue
  pub part : Part
  pub kind : a.kind ≡ Down
  pub outstanding : v.outstanding (OfCore a.core.number) ≡ Some message
  pub path : place ≡ up b level a.core.number
  pub granted : 0 < v.granted level place
  pub applied : level < a.applied
  pub at : slice_get message.parts level ≡ Some part
  pub last : part.generation
      ≡ sum_by v.known (below b (record { level = level; place = place }))

-- The known starts below a domain -----------------------------------------------------------------

-- the sum of the known starts of the cores below the domain of this level and place
unfoldable pub known_below : BoardValue → (ℕ → ℕ) → ℕ → ℕ → ℕ
known_below b known level place = sum_by known (below b (record { level = level; place = place }))

-- Sums over the cores below a domain.
pub record KnownLaws (b : BoardValue) : Type 0 where
  -- where each number is no larger, so is the sum, and one that is less makes it less
  pub le : (f g : ℕ → ℕ) (level place : ℕ)
      → ((c : ℕ) → c < cores b → up b level c ≡ place → f c ≤ g c)
      → known_below b f level place ≤ known_below b g level place
  pub less : (f g : ℕ → ℕ) (level place c : ℕ)
      → ((x : ℕ) → x < cores b → up b level x ≡ place → f x ≤ g x)
      → c < cores b → up b level c ≡ place → f c < g c
      → known_below b f level place < known_below b g level place
  -- so where the sums are equal each number is
  pub each : (f g : ℕ → ℕ) (level place c : ℕ)
      → ((x : ℕ) → x < cores b → up b level x ≡ place → f x ≤ g x)
      → known_below b f level place ≡ known_below b g level place
      → c < cores b → up b level c ≡ place
      → f c ≡ g c
  pub same : (f g : ℕ → ℕ) (level place : ℕ)
      → ((c : ℕ) → c < cores b → up b level c ≡ place → f c ≡ g c)
      → known_below b f level place ≡ known_below b g level place
  -- a core is the only one below itself
  pub own : (f : ℕ → ℕ) (c : ℕ) → c < cores b → known_below b f 0 c ≡ f c
  -- neither the sum nor what one sum is above another ever falls up a path
  pub rises : (f : ℕ → ℕ) (c level : ℕ)
      → known_below b f level (up b level c) ≤ known_below b f (level + 1) (up b (level + 1) c)
  pub gap : (f g : ℕ → ℕ) (c level : ℕ) → ((x : ℕ) → f x ≤ g x)
      → known_below b g level (up b level c) + known_below b f (level + 1) (up b (level + 1) c)
      ≤ known_below b f level (up b level c) + known_below b g (level + 1) (up b (level + 1) c)
  pub most : (f : ℕ → ℕ) (level place most : ℕ) → ((c : ℕ) → f c ≤ most)
      → known_below b f level place ≤ cores b * most

-- Claims: what has been asked of a domain in a life, by all messages that were sent ---------------

-- the part that a message has for the domain of this level and place: it is a Down of this life,
-- the domain is on its sender's path, and the Down has a part of the level
abbrev pub part_for : BoardValue → ℕ → ℕ → ℕ → MessageValue → Option Part
part_for b life level place m =
    if is_kind m.kind Down && (m.life == life && is_path_place b m.core.number level place)
    then slice_get m.parts level
    else None

-- A claim that the start of each life makes: power-down, with generation 0, of each domain of the
-- board that is not on the boot core's path.
pub record IsFromStart (b : BoardValue) (level place : ℕ) (p : Part) : Type 0 where
  pub node : has_node b (record { level = level; place = place }) ≡ true
  pub off_path : is_path_place b 0 level place ≡ false
  pub is : p ≡ record { level = level; depth = power_down; generation = 0 }

-- A claim that a message made.
pub record IsFromMessage (b : BoardValue) (life level place : ℕ) (p : Part)
    (sent : List MessageValue) : Type 0 where
  -- the place of the message among those that were sent
  pub index : ℕ
  pub message : MessageValue
  pub at : slice_get sent index ≡ Some message
  pub part : part_for b life level place message ≡ Some p

-- a claim on the domain of this level and place in this life, where these messages were sent
abbrev pub IsClaimOn : BoardValue → ℕ → ℕ → ℕ → Part → List MessageValue → Type 0
IsClaimOn b life level place p sent =
    IsFromStart b level place p ⊎ IsFromMessage b life level place p sent

-- no core below the domain has entered since the claim was made: its generation is the sum of the
-- known starts below
abbrev pub IsCurrent : BoardValue → (ℕ → ℕ) → ℕ → ℕ → Part → Type 0
IsCurrent b known level place p = p.generation ≡ known_below b known level place

-- Claims on one domain in one life have different generations: that of a later one is larger, and
-- that of each message is above that of the life's start. Messages have the last one first.
pub record AreRising (b : BoardValue) (sent : List MessageValue) : Type 0 where
  pub later : (life level place j k : ℕ) (m n : MessageValue) (p q : Part) → j < k
      → slice_get sent j ≡ Some m → slice_get sent k ≡ Some n
      → part_for b life level place m ≡ Some p → part_for b life level place n ≡ Some q
      → q.generation < p.generation
  pub start : (life level place k : ℕ) (m : MessageValue) (p : Part) → slice_get sent k ≡ Some m
      → part_for b life level place m ≡ Some p
      → 0 < p.generation

-- below a domain with a current claim no core runs
abbrev pub AreQuiet : BoardValue → ℕ → (ℕ → ℕ) → (ℕ → Phase) → List MessageValue → Type 0
AreQuiet b life known phase sent =
    (level place : ℕ) (p : Part) → IsClaimOn b life level place p sent
    → IsCurrent b known level place p → (c : ℕ) → c < cores b → up b level c ≡ place
    → phase c ≡ Running → ⊥

-- Cores that have entered in this life, and cores that have not -----------------------------------

-- What a known start says of a core.
pub record AreEntered (known : ℕ → ℕ) (status : ℕ → Status) (phase : ℕ → Phase) : Type 0 where
  -- a core that runs or is suspended has entered: it has a known start
  pub runs : (c : ℕ) → phase c ≡ Running → 0 < known c
  pub suspended : (c : ℕ) (ask : List ℕ) → phase c ≡ Suspended ask → 0 < known c
  -- a core without one is away or pending, and not ON
  pub away : (c : ℕ) → known c ≡ 0 → (phase c ≡ Away) ⊎ (phase c ≡ Pending)
  pub not_on : (c : ℕ) → known c ≡ 0 → is_on (status c) ≡ false

-- Granted depths and claims -----------------------------------------------------------------------

-- A current claim of this depth on the domain of this level and place.
pub record HasCurrent (b : BoardValue) (life : ℕ) (known : ℕ → ℕ) (level place depth : ℕ)
    (sent : List MessageValue) : Type 0 where
  pub part : Part
  pub claim : IsClaimOn b life level place part sent
  pub current : IsCurrent b known level place part
  pub deep : part.depth ≡ depth

-- no core below the domain of this level and place is pending
abbrev pub NonePending : BoardValue → (ℕ → Phase) → ℕ → ℕ → Type 0
NonePending b phase level place =
    (c : ℕ) → c < cores b → up b level c ≡ place → phase c ≡ Pending → ⊥

-- What is granted is what current claims say.
pub record AreGranted (b : BoardValue) (life : ℕ) (known : ℕ → ℕ) (phase : ℕ → Phase)
    (granted : ℕ → ℕ → ℕ) (sent : List MessageValue) : Type 0 where
  -- a granted depth above 0 is that of a current claim
  pub claimed : (level place : ℕ) → 0 < granted level place
      → HasCurrent b life known level place (granted level place) sent
  -- a current claim on a domain without a pending core below is its granted depth
  pub held : (level place : ℕ) (p : Part) → IsClaimOn b life level place p sent
      → IsCurrent b known level place p → NonePending b phase level place
      → granted level place ≡ p.depth

-- A current claim of this depth or deeper on the domain of this level and place.
pub record HasDeeper (b : BoardValue) (life : ℕ) (known : ℕ → ℕ) (level place depth : ℕ)
    (sent : List MessageValue) : Type 0 where
  pub part : Part
  pub claim : IsClaimOn b life level place part sent
  pub current : IsCurrent b known level place part
  pub deep : depth ≤ part.depth

-- Messages ----------------------------------------------------------------------------------------

-- whether a message of this kind is for the whole system
abbrev pub is_system : Kind → Bool
is_system Down = false
is_system Start = false
is_system Off = true
is_system Reset = true

-- the known starts below the domain of this level on the path of a core
abbrev pub known_on : BoardValue → (ℕ → ℕ) → ℕ → ℕ → ℕ
known_on b known core level = known_below b known level (up b level core)

-- What a message says, whenever it is looked at.
pub record IsSound (b : BoardValue) (m : MessageValue) : Type 0 where
  -- lives are counted from 1
  pub life : 1 ≤ m.life
  pub core : m.core.number < cores b
  -- a Down has a part of each level from 0 up, with a depth of 1 to 3 that never grows upwards;
  -- other messages have none
  pub parts : ArePartsOf m.kind m.parts
  pub few : length m.parts ≤ height b + 1
  -- no start number is above the start limit, and that of a Start is below it
  pub number : m.number ≤ b.starts
  pub room : m.kind ≡ Start → m.number < b.starts
  -- the sender of a Down has entered, and its first generation is its number
  pub entered : m.kind ≡ Down → 0 < m.number
  pub first : (p : Part) → slice_get m.parts 0 ≡ Some p → p.generation ≡ m.number
  -- no generation is above what all cores together can be started
  pub most : (level : ℕ) (p : Part) → slice_get m.parts level ≡ Some p
      → p.generation ≤ cores b * b.starts
  -- no generation is below that of the level below
  pub rises : (level : ℕ) (p q : Part) → slice_get m.parts level ≡ Some p
      → slice_get m.parts (level + 1) ≡ Some q
      → p.generation ≤ q.generation

-- What a message of this life says beside the firmware's values.
pub record IsOfThisLife (b : BoardValue) (halting : Bool) (known : ℕ → ℕ) (phase : ℕ → Phase)
    (m : MessageValue) : Type 0 where
  -- no number is above the known start, and no generation above the known starts below
  pub number : m.number ≤ known m.core.number
  pub older : (level : ℕ) (p : Part) → slice_get m.parts level ≡ Some p
      → p.generation ≤ known_on b known m.core.number level
  -- what a generation lacks to the known starts never falls upwards
  pub lacking : (level : ℕ) (p q : Part) → slice_get m.parts level ≡ Some p
      → slice_get m.parts (level + 1) ≡ Some q
      → known_on b known m.core.number level + q.generation
      ≤ known_on b known m.core.number (level + 1) + p.generation
  -- an Off or a Reset is sent in a halting life alone
  pub halts : is_system m.kind ≡ true → halting ≡ true
  -- a Start with the known start as its number: the core is pending
  pub pending : m.kind ≡ Start → m.number ≡ known m.core.number → phase m.core.number ≡ Pending
  -- a Down with the known start as its number: its first depth is what the core asks of itself,
  -- unless the core is pending
  pub asked : m.kind ≡ Down → m.number ≡ known m.core.number → (phase m.core.number ≡ Pending → ⊥)
      → (p : Part) → slice_get m.parts 0 ≡ Some p
      → p.depth ≡ asks (activity_of (phase m.core.number)) 0

-- A message that was sent, in this life of the firmware or an earlier one.
pub record IsSent (b : BoardValue) (life : ℕ) (halting : Bool) (known : ℕ → ℕ) (phase : ℕ → Phase)
    (m : MessageValue) : Type 0 where
  pub sound : IsSound b m
  pub begun : m.life ≤ life
  pub present : m.life ≡ life → IsOfThisLife b halting known phase m

-- each of these messages was
abbrev pub AreSent : BoardValue → ℕ → Bool → (ℕ → ℕ) → (ℕ → Phase) → List MessageValue → Type 0
AreSent b life halting known phase sent =
    (k : ℕ) (m : MessageValue) → slice_get sent k ≡ Some m → IsSent b life halting known phase m

-- What is outstanding -----------------------------------------------------------------------------

-- A message of this life that was sent.
pub record IsOfLife (life : ℕ) (sent : List MessageValue) (m : MessageValue) : Type 0 where
  pub index : ℕ
  pub at : slice_get sent index ≡ Some m
  pub present : m.life ≡ life

-- What is outstanding for a core: a message of this life for it with its known start, a Start only
-- while it is pending, and a Down only while it is not.
pub record IsOfCore (life : ℕ) (known : ℕ → ℕ) (phase : ℕ → Phase) (sent : List MessageValue)
    (c : ℕ) (m : MessageValue) : Type 0 where
  pub listed : IsOfLife life sent m
  pub core : m.core.number ≡ c
  pub number : m.number ≡ known c
  pub kind : is_system m.kind ≡ false
  pub start : m.kind ≡ Start → phase c ≡ Pending
  pub down : m.kind ≡ Down → phase c ≡ Pending → ⊥

-- What is outstanding.
pub record AreOutstanding (life : ℕ) (known : ℕ → ℕ) (phase : ℕ → Phase)
    (sent : List MessageValue) (outstanding : Slot → Option MessageValue) : Type 0 where
  pub core : (c : ℕ) (m : MessageValue) → outstanding (OfCore c) ≡ Some m
      → IsOfCore life known phase sent c m
  -- for the system an Off or a Reset of this life
  pub system : (m : MessageValue) → outstanding OfSystem ≡ Some m → IsOfLife life sent m
  pub halts : (m : MessageValue) → outstanding OfSystem ≡ Some m → is_system m.kind ≡ true

-- What the firmware keeps true of its values and of all messages that were sent -------------------

-- a core without a known start is not ON
abbrev pub AreNotOn : (ℕ → ℕ) → (ℕ → Status) → Type 0
AreNotOn known status = (c : ℕ) → known c ≡ 0 → is_on (status c) ≡ false

-- What is kept, said of the fields that it reads: a change of others leaves it as it is.
pub record AreKeptTrue (b : BoardValue) (life : ℕ) (halting : Bool) (known : ℕ → ℕ)
    (status : ℕ → Status) (phase : ℕ → Phase) (granted : ℕ → ℕ → ℕ)
    (outstanding : Slot → Option MessageValue) (sent : List MessageValue) : Type 0 where
  -- no life is above the board's
  pub lives : life ≤ b.lives
  -- messages, claims, granted depths
  pub messages : AreSent b life halting known phase sent
  pub apart : AreRising b sent
  pub quiet : AreQuiet b life known phase sent
  pub grants : AreGranted b life known phase granted sent
  -- cores that have not entered, and what is outstanding
  pub entered : AreNotOn known status
  pub slots : AreOutstanding life known phase sent outstanding

-- what is kept of these values
abbrev pub Holds : BoardValue → Values → List MessageValue → Type 0
Holds b v sent =
    AreKeptTrue b v.life v.halting v.known v.status v.phase v.granted v.outstanding sent

-- Claims whose generation is that of all starts so far, known or not ------------------------------

-- What holds of a claim with the sum of the starts below as its generation, where a core may have
-- been started more often than is known.
pub record AreLive (b : BoardValue) (life : ℕ) (known : ℕ → ℕ) (phase : ℕ → Phase)
    (sent : List MessageValue) (starts : ℕ → ℕ) : Type 0 where
  -- it is current
  pub current : (level place : ℕ) (p : Part) → IsClaimOn b life level place p sent
      → p.generation ≡ known_below b starts level place → IsCurrent b known level place p
  -- each core below its domain has entered by its last start, and none runs
  pub entered : (level place c : ℕ) (p : Part) → IsClaimOn b life level place p sent
      → p.generation ≡ known_below b starts level place → c < cores b → up b level c ≡ place
      → known c ≡ starts c
  pub rests : (level place c : ℕ) (p : Part) → IsClaimOn b life level place p sent
      → p.generation ≡ known_below b starts level place → c < cores b → up b level c ≡ place
      → phase c ≡ Running → ⊥
  -- where a part of a message has that generation, so has the part below it
  pub below : (k level : ℕ) (m : MessageValue) (p q : Part) → slice_get sent k ≡ Some m
      → m.life ≡ life → slice_get m.parts level ≡ Some p → slice_get m.parts (level + 1) ≡ Some q
      → q.generation ≡ known_on b starts m.core.number (level + 1)
      → p.generation ≡ known_on b starts m.core.number level

-- Lives, starts and sums of starts within their limits --------------------------------------------

-- What no history exceeds.
pub record AreWithin (b : BoardValue) (life : ℕ) (known : ℕ → ℕ) (sent : List MessageValue)
    : Type 0 where
  -- lives and starts of a core, as the board limits them
  pub lives : life ≤ b.lives
  pub starts : (c : ℕ) → known c ≤ b.starts
  -- sums of starts, by those of all cores together
  pub sums : (level place : ℕ) → known_below b known level place ≤ cores b * b.starts
  -- the same of the numbers and generations of messages
  pub number : (k : ℕ) (m : MessageValue) → slice_get sent k ≡ Some m → m.number ≤ b.starts
  pub generation : (k level : ℕ) (m : MessageValue) (p : Part) → slice_get sent k ≡ Some m
      → slice_get m.parts level ≡ Some p → p.generation ≤ cores b * b.starts
