-- Where nothing is outstanding firmware and power controller agree on every domain; and unless the
-- world halts it settles.
use Rattle.std.proofs.lemmas.List.Sums.{AllPass-from_list_all}
use Rattle.psci_headline.proofs.Words.{◌++◌, ◌+◌, ◌<◌, ◌∙◌, ◌≡◌, ap, AreAtRest, arith}
use Rattle.psci_headline.proofs.Words.{BoardValue, cases_lt, controller_values, cores}
use Rattle.psci_headline.proofs.Words.{deliveries, false, firmware_values, HasNode, height, inl}
use Rattle.psci_headline.proofs.Words.{inr, is_halting, is_settling, IsLegalPast, IsSettled}
use Rattle.psci_headline.proofs.Words.{known_below, List, MessageValue, nat_tests, Node, None}
use Rattle.psci_headline.proofs.Words.{none-some, OfSystem, Option, Reached, Record, refl}
use Rattle.psci_headline.proofs.Words.{same_Some, sent, Some, subst, suc, sym, Values, ℕ}
use Rattle.psci_headline.specs.psci_fw_laws.Messages.{AreGranted}
use Rattle.psci_headline.specs.Settling.{begun, settled}
use Rattle.psci_headline.proofs.fw_laws.Refusing.{known_same}
use Rattle.psci_headline.proofs.Applying.{claim_deep}
use Rattle.psci_headline.proofs.Starts.{goes_on, has_begun, HasBegun, IsGoing, known_now}
use Rattle.psci_headline.proofs.Starts.{none_system, out_now, waits_now}
use Rattle.psci_headline.proofs.Rounds.{comes_to_rest, deep_or_out, DeepAt, HasRest, IsRound}
use Rattle.psci_headline.proofs.Rounds.{out_at}
use Rattle.psci_headline.proofs.Nexts.{SettleLaws}
use Rattle.psci_headline.proofs.Controls.{found_own}
use Rattle.psci_headline.proofs.Beginning.{IsUnderWay}
use Rattle.psci_headline.proofs.Serving.{none_added, deliveries_more}
use Rattle.psci_headline.proofs.Confirmed.{LifeGoesOn, going_life}
use Rattle.psci_ctl_spec.specs.Values as controlled

-- At rest --------------------------------------------------------------------------------------

-- then each live claim has its depth
all_deep : (b : BoardValue) (before : List Record) (life : ℕ) (past : List Record) (r c : ℕ)
    → SettleLaws b → IsGoing b before life past
    → ((x : ℕ) → x < cores b → out_at b x past ≡ None) → DeepAt b life r c past
all_deep b before life past r c laws going none k level m p at present kind core part live low =
    elim (deep_or_out b before life past c k level m p laws going at present kind core part live) [
      | inl deep ↦ deep
      | inr out ↦
          let sound = ((known_now b before life past laws going).messages k m at).sound in
          let on : c < cores b = subst (λ x. x < cores b) core sound.core in
          absurd (none-some m (sym (none c on) ∙ out))
    ]

module _ (b : BoardValue) (before : List Record) (life : ℕ) (past : List Record)
    (laws : SettleLaws b) (going : IsGoing b before life past)
    (none : (x : ℕ) → x < cores b → out_at b x past ≡ None) where
  abbrev w : controlled.Values
  w = controller_values b past

  abbrev v : Values
  v = firmware_values b past

  grants : AreGranted b life v.known v.phase v.granted (sent past)
  grants = grind (arith, nat_tests)

  same_known : (level place : ℕ)
      → known_below b v.known level place ≡ known_below b w.starts level place
  same_known level place = known_same b v.known w.starts level place (λ c i at. going.known c i)

  -- a granted domain is as deep
  granted_deep : (level place : ℕ) → 0 < v.granted level place
      → v.granted level place ≡ w.depth level place
  granted_deep level place some =
      let has = grants.claimed level place some in
      sym has.deep
      ∙ sym (claim_deep b life w.starts w.depth (sent past) (suc level) level place has.part
      (waits_now b before life past laws going).first
      (λ c below. all_deep b before life past (suc level) c laws going none) has.claim
      (has.current ∙ same_known level place) (omega arith))

  -- a domain that is not fully on was granted its depth
  deep_granted : (n : Node) → HasNode b n → 0 < w.depth n.level n.place
      → v.granted n.level n.place ≡ w.depth n.level n.place
  deep_granted n has some =
      let live = (laws.past past going.legal).claimed life n.level n.place has going.present some in
      grants.held n.level n.place live.part live.claim
      (live.live ∙ sym (same_known n.level n.place)) (λ c i at e. going.rests c i e)
      ∙ sym live.deep

  agree : (n : Node) → HasNode b n → v.granted n.level n.place ≡ w.depth n.level n.place
  agree n has = grind (arith, nat_tests, cases_lt, granted_deep, deep_granted)

  no_system : (o : Option MessageValue) → v.outstanding OfSystem ≡ o → o ≡ None
  no_system None e = refl
  no_system (Some m) e = absurd (none_system b before life past m laws going e)

  pub at_rest : AreAtRest b past
  at_rest = grind (arith, nat_tests, no_system, agree)

-- Reached --------------------------------------------------------------------------------------

first_round : (b : BoardValue) (before : List Record) (life : ℕ) (past : List Record)
    → SettleLaws b → HasBegun b before life past → IsRound b before life 0 past
first_round b before life past laws begins = grind (arith, nat_tests, goes_on, same_Some, out_now)

pub comes : (b : BoardValue) (past : List Record) → SettleLaws b → IsLegalPast b past
    → (goes : LifeGoesOn b past) → HasRest b past goes.life (settled b past)
unfolding settled
comes b past laws is goes =
    let way : IsUnderWay b past goes.life past =
    grind (arith, nat_tests, none_added) in
    let begins = has_begun b past goes.life laws way in
    comes_to_rest b past goes.life (height b + 1) 0 (begun b past) laws (omega arith)
    (first_round b past goes.life (begun b past) laws begins)

-- What is so where the world has settled.
pub record IsReached (b : BoardValue) (past : List Record) : Type 0 where
  pub legal : IsLegalPast b past
  pub awake : is_halting b past ≡ false
  pub rest : AreAtRest b past

pub reached : (b : BoardValue) (past : List Record) → SettleLaws b → IsLegalPast b past
    → is_halting b past ≡ false → IsReached b (settled b past).past
reached b past laws is awake =
    let goes = going_life b past awake in
    let rest = comes b past laws is goes in
    let end : List Record = (settled b past).past in
    let going : IsGoing b past goes.life end = rest.is.going in
    record {
      legal = going.legal;
      awake = grind (arith, nat_tests, found_own);
      rest = at_rest b past goes.life end laws going rest.none;
    }

-- The end --------------------------------------------------------------------------------------

-- What is to hold of the records that were reached.
pub record HasSettled (b : BoardValue) (before : List Record) (reached : Reached) : Type 0 where
  pub added : List Record
  pub is : reached.past ≡ added ++ before
  pub settled : IsSettled b before added reached.rounds

settled_at : (b : BoardValue) (before : List Record) (life : ℕ) (reached : Reached)
    → SettleLaws b → HasRest b before life reached → HasSettled b before reached
settled_at b before life reached laws rest =
    let going : IsGoing b before life reached.past = rest.is.going in
    let added : List Record = going.added.records in
    let is : reached.past ≡ added ++ before = going.added.is in
    let times : (k : ℕ) → deliveries k reached.past ≡ deliveries k added + deliveries k before =
    λ k. ap (deliveries k) is ∙ deliveries_more k added before in
    record {
      added = added;
      is = is;
      settled = record {
        legal = subst (IsLegalPast b) is going.legal;
        events = AllPass-from_list_all (λ r. is_settling r.event) added going.added.events;
        rest = subst (AreAtRest b) is
            (at_rest b before life reached.past laws going rest.none);
        few = rest.few;
        most = λ k m at kind. grind (arith, nat_tests);
        some = λ some. grind (arith, nat_tests, reached);
      };
    }

pub settles : (b : BoardValue) (past : List Record) → SettleLaws b → IsLegalPast b past
    → is_halting b past ≡ false → HasSettled b past (settled b past)
settles b past laws is awake =
    let goes = going_life b past awake in
    settled_at b past goes.life (settled b past) laws (comes b past laws is goes)
