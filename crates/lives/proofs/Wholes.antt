-- What a whole operation of the ledger leaves as it was.
use Rattle.std.proofs.Common.{ℕ, leb, List, [], ◌∷◌, length, Some, None, Option, refl, ◌∙◌}
use Rattle.std.proofs.lemmas.Bool.{cond_both}
use Rattle.model.specs.declared.state.Operation.{Operation}
use Rattle.model.specs.declared.state.Operation.TheVariants.{Add, Push, Pop, Put, Take}
use Rattle.model.specs.Ledger.{Ledger, Outcome, Waiting, updated, with_rings, with_lists_and_hands, with_waiting, pushes, pops, takes, does_whole}
use Rattle.lives.proofs.Nodes.{updated_else}
use Rattle.lives.proofs.Keeping.{SameElsewhere}

module _ (packets : ℕ) (l : Ledger) (t c : ℕ) where
  -- A ledger differs from itself nowhere.
  pub same_ledger : SameElsewhere c t l l
  same_ledger = record {
    counters = λ other differs. refl;
    lists = λ other differs. refl;
    rings = λ other differs. refl;
    hands = λ other differs. refl;
    waiting = λ other differs. refl;
    current = λ other. refl;
  }

  nodes_elsewhere : (nodes : List ℕ) (hand : Option ℕ) → SameElsewhere c t l (with_lists_and_hands l (updated l.lists c nodes) (updated l.hands t hand))
  nodes_elsewhere nodes hand = record {
    counters = λ other differs. refl;
    lists = λ other differs. updated_else l.lists c nodes other differs;
    rings = λ other differs. refl;
    hands = λ other differs. updated_else l.hands t hand other differs;
    waiting = λ other differs. refl;
    current = λ other. refl;
  }

  pushed_elsewhere : (hand : Option ℕ) → SameElsewhere c t l (pushes packets l t c hand).ledger
  pushed_elsewhere None = same_ledger
  pushed_elsewhere (Some node) = nodes_elsewhere _ _

  popped_elsewhere : (hand : Option ℕ) (nodes : List ℕ) → SameElsewhere c t l (pops packets l t c hand nodes).ledger
  popped_elsewhere (Some node) nodes = same_ledger
  popped_elsewhere None [] = same_ledger
  popped_elsewhere None (node ∷ nodes) = nodes_elsewhere _ _

  ring_elsewhere : (ring : List ℕ) → SameElsewhere c t l (with_rings l (updated l.rings c ring))
  ring_elsewhere ring = record {
    counters = λ other differs. refl;
    lists = λ other differs. refl;
    rings = λ other differs. updated_else l.rings c ring other differs;
    hands = λ other differs. refl;
    waiting = λ other differs. refl;
    current = λ other. refl;
  }

  taken_elsewhere : (ring : List ℕ) → SameElsewhere c t l (takes packets l t c ring).ledger
  taken_elsewhere [] = same_ledger
  taken_elsewhere (packet ∷ ring) = ring_elsewhere ring

  pub whole_elsewhere : (operation : Operation) → SameElsewhere c t l (does_whole packets l t c operation).ledger
  whole_elsewhere (Add counter amount) = record {
    counters = λ other differs. updated_else l.counters c _ other differs;
    lists = λ other differs. refl;
    rings = λ other differs. refl;
    hands = λ other differs. refl;
    waiting = λ other differs. refl;
    current = λ other. refl;
  }
  whole_elsewhere Push = pushed_elsewhere (l.hands t)
  whole_elsewhere Pop = popped_elsewhere (l.hands t) (l.lists c)
  whole_elsewhere (Put amount) = cond_both (leb packets (length (l.rings c))) _ _ (λ (o : Outcome). SameElsewhere c t l o.ledger) (λ full. same_ledger) (λ room. ring_elsewhere _)
  whole_elsewhere Take = taken_elsewhere (l.rings c)

  -- It is done, and no longer waits.
  pub settled_elsewhere : (k : Ledger) (rest : List Waiting) → SameElsewhere c t l k → SameElsewhere c t l (with_waiting k (updated k.waiting t rest))
  settled_elsewhere k rest same = record {
    counters = same.counters;
    lists = same.lists;
    rings = same.rings;
    hands = same.hands;
    waiting = λ other differs. updated_else k.waiting t rest other differs ∙ same.waiting other differs;
    current = same.current;
  }
