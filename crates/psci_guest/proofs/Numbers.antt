-- The message of a record has the number of the messages before it.
use Rattle.psci_headline.proofs.Words.{◌++◌, ◌∙◌, ◌∷◌, ◌≡◌, ap, arith, BoardValue, cond-true}
use Rattle.psci_headline.proofs.Words.{Event, FwReply, index_of, indexed, legal, length, List}
use Rattle.psci_headline.proofs.Words.{listed, MessageValue, nat_tests, Option, option_map}
use Rattle.psci_headline.proofs.Words.{Record, refl, Said, said_by, sent, sent_in, ℕ}
use Rattle.psci_ctl_spec.specs.declared.reply.CtlReply.{CtlReply}
use Rattle.psci_headline.specs.Settling.{has_name}
use Rattle.psci_headline.specs.psci_world_spec.Legal.{said_of}
use Rattle.psci_headline.proofs.Serving.{HasNumber, numbered_new, own_name}
use Rattle.psci_headline.proofs.Happening.{of_event}
use Rattle.psci_guest.specs.Turns.{number_in}

-- What is said has that number.
abbrev IsNumbered : List Record → Said → Type 0
IsNumbered past said = number_in said ≡ option_map (λ m. length (sent past)) (sent_in said)

fw_numbered : (past : List Record) (r : FwReply) → IsNumbered past (said_of (length (sent past)) r)
fw_numbered past r = grind (arith, nat_tests)

ctl_numbered : (past : List Record) (n : ℕ) (r : CtlReply) → IsNumbered past (said_by n r)
ctl_numbered past n r = grind (arith, nat_tests)

pub numbered : (b : BoardValue) (past : List Record) (event : Event)
    → IsNumbered past (legal b past event)
numbered b past event =
    of_event b past (λ event said. IsNumbered past said) (record {
      absent = λ event. refl;
      ignored = λ event. refl;
      call = λ c regs on at. fw_numbered past _;
      enter = λ c s on at last. fw_numbered past _;
      wake = λ c on. ctl_numbered past _ _;
      reset = λ c on. ctl_numbered past _ _;
      deliver = λ k m at. ctl_numbered past _ _;
      take = λ k a at. fw_numbered past _;
    }) event

-- one item more or less is one item
pub same_listed : (o p : Option MessageValue) (xs : List MessageValue)
    → listed o ++ xs ≡ listed p ++ xs → o ≡ p
same_listed o p xs e = grind (arith, nat_tests, more_length)
  where
    more_length : (x : MessageValue) → xs ≡ x ∷ xs → ⊥
    more_length x e = let n = ap length e in omega (arith, n)

-- the newest message is found by its name
abbrev pub newest : (m : MessageValue) (messages rest : List MessageValue) → messages ≡ m ∷ rest
    → HasNumber m messages
newest m messages rest e = record {
  number = length rest;
  found = ap (index_of m) e ∙ cond-true (has_name m m) _ _ (own_name m);
  message = m;
  at = ap (λ l. indexed l (length rest)) e ∙ numbered_new m rest;
  name = record { kind = refl; core = refl; life = refl; number = refl };
}
