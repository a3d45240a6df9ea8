-- The place of an edit, or why there is none.
use Rattle.std.proofs.Common.{◌≡◌, ℕ, ◌+◌, ◌≤◌, List, Some, arith}
use Rattle.std.proofs.Math.Logic.{∥∥₁_map}
use Rattle.std.specs.Prelude.{IfOk, Result, Ok, Err}
use Rattle.ild_cbor.specs.declared.why.BlockWhy.{BlockWhy}
use Rattle.ild_data.specs.Spell.{id_of}
use Rattle.ild_data.specs.declared.id.BlockId.{BlockId}
use Rattle.ild_edges.specs.Store.{Moment, block_at}
use Rattle.ild_open_parts.specs.Reads.{OnlyReads}
use Rattle.ild_path_place.specs.Places.{LocateAnswer, Locates}
use Rattle.ild_path_place.specs.Refuses.{RefusesBroken}
use Rattle.ild_path_place.specs.Rooted.{FailsOnly, IsRootedAt}
use Rattle.ild_path_place.specs.Parts.{verb_in}
use Rattle.ild_path_place.specs.Tells.{IsPlaceOf}
use Rattle.ild_path_place.specs.declared.fault.PathFault.{PathFault}
use Rattle.ild_path_place.specs.declared.fault.PathFault.TheVariants as F
use Rattle.ild_path_place.specs.declared.place.Place.{Place}
use Rattle.ild_path_place.specs.declared.verb.Verb.{Verb}
use Rattle.ild_path_around.specs.Telling.{FaultsAreRefusals, FaultsRefuse, PlacesTell}
use Rattle.ild_schema.specs.declared.row.Row.{Row}
use Rattle.ild_schema.specs.Slots.{plainly}
use Rattle.ild_schema.specs.Value.{Value}
use Rattle.ild_typed.specs.At.{InSlot}
use Rattle.ild_typed.specs.Stands.{Stands, bare}
use Rattle.ild_run_standing.specs.Blame.{IsBroken}
use Rattle.ild_view_doc.specs.Block.{IsRootBlock}
use Rattle.ild_view_doc.specs.Docs.{block_in, table_in, type_in}
use Rattle.ild_view_doc.specs.declared.doc.Doc.{Doc}
use Rattle.ild_run_edit.specs.inside.Roots.{FindAnswer, FindFails, PlaceIsFound, no_place}

-- what is said of the place over a store that tells its blocks
abbrev pub Located : (List ℕ → List ℕ) → Doc → Verb → List (List ℕ) → Moment → Result Place PathFault → Moment → Type 0
Located h d verb path m r n =
    (was : List (List ℕ)) (v : Value) → m.blocks ≡ Some was → block_at was (id_of (block_in d)) ≡ Some (block_in d) → Stands bare (block_at was) h (table_in d) (type_in d) (id_of (block_in d)) v
    → Locates h (table_in d) was (plainly (type_in d), v) path verb m r n

abbrev pub Rooted : (List ℕ → List ℕ) → Doc → Moment → Result Place PathFault → Type 0
Rooted h d m r =
    (was : List (List ℕ)) (v : Value) → m.blocks ≡ Some was → block_at was (id_of (block_in d)) ≡ Some (block_in d) → Stands bare (block_at was) h (table_in d) (type_in d) (id_of (block_in d)) v
    → IfOk r (λ place. IsRootedAt h (table_in d) was (plainly (type_in d), v) place)

one_more : (a b c : ℕ) → a ≤ b + c → a + 1 ≤ b + (1 + c)
one_more a b c le = omega (arith, le)

module _ (h : List ℕ → List ℕ) (d : Doc) (verb : Verb) (path : List (List ℕ)) (m n : Moment) where
  pub finds_place : PlacesTell → (place : Place) → OnlyReads m n → IsPlaceOf (table_in d) (type_in d) place → verb_in place ≡ verb → Rooted h d m (Ok place) → Located h d verb path m (Ok place) n → PlaceIsFound h d verb path m (Ok place) n
  finds_place tell place only of done rooted x = record {
    only = only;
    of = of;
    done = done;
    fails = tt;
    stands = λ held v told own s.
        let y = x held v told own s in
        record { answer = tell h (table_in d) held (plainly (type_in d), v) path verb place y.answer (rooted held v told own s); gets = one_more _ _ _ y.gets };
  }

  -- a block that is refused is broken, whichever the front of the document's
  abbrev Blamed : PathFault → Type 0
  Blamed f = (front : Value) (root : IsRootBlock (table_in d) (type_in d) (block_in d) front) → RefusesBroken {A = Place} h (table_in d) (id_of (block_in d)) 96 (plainly (type_in d)) root.tree m (Err f) n

  broken : (id : BlockId) (why : BlockWhy) → Blamed (F.Block id why) → IsBroken h d m.blocks m.lacks n.lacks
  broken id why blamed = ∥∥₁_map d.stands (λ r. record { front = r.value; root = r.root; id = id.0; why = why; broken = blamed r.value r.root })

  fails_so : (f : PathFault) → FailsOnly {A = Place} m (Err f) n → Blamed f → FindFails h d m (Err (no_place f)) n
  fails_so (F.Path k) x blamed = tt
  fails_so F.Mismatch x blamed = tt
  fails_so (F.Block id why) x blamed = broken id why blamed
  fails_so F.Store x blamed = x
  fails_so F.Memory x blamed = tt

  answer_so : (rows : List Row) (was : List (List ℕ)) (p : InSlot) → FaultsRefuse rows p path verb → (f : PathFault) → LocateAnswer h rows was p path verb m (Err f) n → FindAnswer h rows was p path verb m (Err (no_place f)) n
  answer_so rows was p law (F.Path k) a = law.nowhere k a
  answer_so rows was p law F.Mismatch a = law.kept a
  answer_so rows was p law (F.Block id why) a = a
  answer_so rows was p law F.Store a = a
  answer_so rows was p law F.Memory a = a

  pub finds_none : FaultsAreRefusals → (f : PathFault) → OnlyReads m n → FailsOnly {A = Place} m (Err f) n → Blamed f → Located h d verb path m (Err f) n → PlaceIsFound h d verb path m (Err (no_place f)) n
  finds_none laws f only failed blamed x = record {
    only = only;
    of = tt;
    done = tt;
    fails = fails_so f failed blamed;
    stands = λ held v told own s.
        let y = x held v told own s in
        record { answer = answer_so (table_in d) held (plainly (type_in d), v) (laws (table_in d) (plainly (type_in d), v) path verb) f y.answer; gets = one_more _ _ _ y.gets };
  }
