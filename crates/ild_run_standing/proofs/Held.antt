-- Documents whose value a store holds: it stands under the id of the block.
use Rattle.std.proofs.Common.{◌≡◌, ◌≢◌, inr, ℕ, List, [], ◌∷◌, map, Option, Some, None, sym, ap, ◌∙◌, subst}
use Rattle.std.specs.List.{AllByRecursion}
use Rattle.std.specs.Option.{option_map_or}
use Rattle.std.proofs.lemmas.Option.{same_Some}
use Rattle.ild_data.specs.Data.{Data}
use Rattle.ild_data.specs.Spell.{spell, id_of}
use Rattle.ild_edges.specs.Store.{Moment, block_at}
use Rattle.ild_edges.specs.Told.{IfTold}
use Rattle.ild_schema.specs.Slots.{plainly}
use Rattle.ild_schema.specs.Value.{Value}
use Rattle.ild_typed.specs.Hamt.{whole}
use Rattle.ild_typed.specs.Represented.{represented}
use Rattle.ild_typed.specs.Stands.{Stands, bare, blocks_of}
use Rattle.ild_data.specs.Among.{AreUnderIds}
use Rattle.ild_typed_places.specs.Laws.{PlacesAreHeld}
use Rattle.ild_typed_places.specs.Places.{Place, down_from, each_place, value_places}
use Rattle.ild_path_edits.specs.Judged.{Tests}
use Rattle.ild_script_session.specs.Step.{AreCarried, Holds}
use Rattle.ild_script_meaning.specs.Lines.{places_in, value_blocks}
use Rattle.ild_view_doc.specs.Docs.{table_in, type_in, block_in}
use Rattle.ild_view_doc.specs.declared.doc.Doc.{Doc}
use Rattle.ild_run_standing.specs.Laws.{StandingAreAt, HeldAreStanding}
use Rattle.ild_run_standing.specs.Standing.{IsOf, setting_of}

some_told : (o : Option (List (List ℕ))) (held : List (List ℕ)) → o ≡ Some held → o ≢ None
some_told o held e none = let x : None ≡ Some held = sym none ∙ e in absurd cc

-- the blocks and the places of a value, by the data that represent it
module _ (h : List ℕ → List ℕ) (d : Doc) (tests : Tests) (v : Value) (t : Data) (is : represented (whole h) (table_in d) (plainly (type_in d)) v ≡ Some t) where
  blocks_are : value_blocks (setting_of h d tests) v ≡ blocks_of bare h (table_in d) (type_in d) v t
  blocks_are = ap (λ o. option_map_or (λ x. blocks_of bare h (table_in d) (type_in d) v x) o []) is

  pair_of : Place → List ℕ × List (List ℕ)
  pair_of q = (q.0, down_from q)

  places_are : places_in (setting_of h d tests) v ≡ map (λ q. (q.0, down_from q)) (each_place (value_places bare h (table_in d) (type_in d) v t))
  places_are = ap (λ o. option_map_or (λ x. map (λ q. (q.0, down_from q)) (each_place (value_places bare h (table_in d) (type_in d) v x))) o []) is

holds_told : (m : Moment) (held : List (List ℕ)) → m.blocks ≡ Some held → (bs : List (List ℕ)) → AllByRecursion (λ b. block_at held (id_of b) ≡ Some b) bs → Holds m bs
holds_told m held told bs all = subst (λ (o : Option (List (List ℕ))). IfTold o (λ x. AllByRecursion (λ b. block_at x (id_of b) ≡ Some b) bs)) (sym told) all

told_holds : (m : Moment) (held : List (List ℕ)) → m.blocks ≡ Some held → (bs : List (List ℕ)) → Holds m bs → AllByRecursion (λ b. block_at held (id_of b) ≡ Some b) bs
told_holds m held told bs all = subst (λ (o : Option (List (List ℕ))). IfTold o (λ x. AllByRecursion (λ b. block_at x (id_of b) ≡ Some b) bs)) told all

carried_told : (m : Moment) (held : List (List ℕ)) → m.blocks ≡ Some held → (qs : List Place) → AllByRecursion (λ q. AreUnderIds (block_at held) (down_from q)) qs → AreCarried m [] (map (λ q. (q.0, down_from q)) qs)
carried_told m held told [] all = tt
carried_told m held told (q ∷ qs) all = (inr (holds_told m held told (down_from q) all.0), carried_told m held told qs all.1)

pub standing_are_at : PlacesAreHeld → StandingAreAt
standing_are_at places = λ h d tests m held v told here s.
    let blocks = blocks_are h d tests v s.tree s.storable.tree in
    let all : Holds m (value_blocks (setting_of h d tests) v) = subst (Holds m) (sym blocks) (holds_told m held told (blocks_of bare h (table_in d) (type_in d) v s.tree) s.all) in record {
      at = record {
        told = some_told m.blocks held told;
        tree = s.tree;
        storable = s.storable;
        block = same_Some (block_in d) (spell s.tree) (sym here ∙ ap (block_at held) s.root ∙ s.all.0);
      };
      carries = record {
        kept = all;
        value = all;
        places = subst (AreCarried m []) (sym (places_are h d tests v s.tree s.storable.tree))
            (carried_told m held told (each_place (value_places bare h (table_in d) (type_in d) v s.tree)) (places bare (block_at held) h (table_in d) (type_in d) (id_of (block_in d)) v s));
      };
    }

-- where the block of a document is of a value, all of whose blocks a store holds, the value stands under its id
pub kept_are_standing : (h : List ℕ → List ℕ) (d : Doc) (tests : Tests) (m : Moment) (held : List (List ℕ)) (v : Value) → m.blocks ≡ Some held → IsOf h d v → Holds m (value_blocks (setting_of h d tests) v)
    → Stands bare (block_at held) h (table_in d) (type_in d) (id_of (block_in d)) v
kept_are_standing h d tests m held v told of all = record {
  tree = of.tree;
  storable = of.storable;
  root = ap id_of of.block;
  all = told_holds m held told (blocks_of bare h (table_in d) (type_in d) v of.tree) (subst (Holds m) (blocks_are h d tests v of.tree of.storable.tree) all);
}

pub held_are_standing : HeldAreStanding
held_are_standing = λ h d tests m held v told x. kept_are_standing h d tests m held v told (record { tree = x.at.tree; storable = x.at.storable; block = x.at.block }) x.carries.kept
