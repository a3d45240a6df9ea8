-- What came as a node of a part came as one of the whole, and stays so.
use Rattle.std.proofs.Common.{◌≡◌, ℕ, inl, inr, ⊎_elim, List, Option, Some, None, refl, sym, subst}
use Rattle.std.specs.Prelude.{IsSome}
use Rattle.ild_data.specs.Among.{AreAmong}
use Rattle.ild_edges.specs.Store.{Keeps, block_at}
use Rattle.ild_schema.specs.declared.row.Row.{Row}
use Rattle.ild_typed.specs.At.{InSlot, at}
use Rattle.ild_typed.proofs.Rooms.{all_more}
use Rattle.ild_path_nodes.specs.NodeLaws.{nodes_in}
use Rattle.ild_path_places.proofs.Along.{children_of_parts}
use Rattle.ild_script_session.specs.Step.{IsWhole}
use Rattle.ild_path_reroot.specs.Reroots.{AddsNodes, NodeCame}
use Rattle.ild_path_reroot.proofs.Among.{among_of}

-- q is a part of p, and its nodes are nodes of p
pub record IsPartOf (h : List ℕ → List ℕ) (rows : List Row) (p q : InSlot) : Type 0 where
  pub path : List (List ℕ)
  pub there : at rows p path ≡ Some q
  pub among : AreAmong (nodes_in h rows q) (nodes_in h rows p)

module _ (h : List ℕ → List ℕ) (rows : List Row) (p q : InSlot) (part : IsPartOf h rows p q) where
  pub came_whole : (now : List (List ℕ)) (b : List ℕ) → NodeCame h rows q.0 q.1 now b → NodeCame h rows p.0 p.1 now b
  came_whole now b x = record {
    among = among_of b (nodes_in h rows q) (nodes_in h rows p) part.among x.among;
    short = x.short;
    whole = record { ids = x.whole.ids; place = children_of_parts h rows p q part.path part.there b x.whole.ids x.whole.place; children = x.whole.children };
  }

  pub adds_whole : (was now : List (List ℕ)) → AddsNodes h rows q.0 q.1 was now → AddsNodes h rows p.0 p.1 was now
  adds_whole was now x = record { came = λ id b held. ⊎_elim (λ before. inl before) (λ new. inr (came_whole now b new)) (x.came id b held) }

still_some : (was now : List (List ℕ)) → Keeps was now → (i : List ℕ) → IsSome (block_at was i) → IsSome (block_at now i)
still_some was now keeps i is = by (block_at was i) refl is where
  by : (o : Option (List ℕ)) → block_at was i ≡ o → IsSome o → IsSome (block_at now i)
  by None e is = absurd cc
  by (Some b) e is = subst IsSome (sym (keeps i b e)) refl

pub whole_stays : (was now : List (List ℕ)) (places : List (List (List ℕ))) → Keeps was now → IsWhole was places → IsWhole now places
whole_stays was now places keeps x = record {
  ids = x.ids;
  place = x.place;
  children = all_more (λ i. IsSome (block_at was i)) (λ i. IsSome (block_at now i)) (λ i is. still_some was now keeps i is) x.ids x.children;
}

pub came_stays : (h : List ℕ → List ℕ) (rows : List Row) (p : InSlot) (was now : List (List ℕ)) (b : List ℕ) → Keeps was now → NodeCame h rows p.0 p.1 was b → NodeCame h rows p.0 p.1 now b
came_stays h rows p was now b keeps x = record { among = x.among; short = x.short; whole = whole_stays was now _ keeps x.whole }
