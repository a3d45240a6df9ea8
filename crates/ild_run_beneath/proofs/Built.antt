-- The tree of places, from what the blocks tell.
use Rattle.std.proofs.Common.{◌≡◌, ℕ, List, [], ◌∷◌, length, refl, sym, ap, ◌∙◌, subst, arith}
use Rattle.std.specs.List.{AllByRecursion}
use Rattle.std.specs.Option.{option_map_or}
use Rattle.ild_cbor.specs.Block.{IsBlockOf}
use Rattle.ild_data.proofs.AllOf.{all_split}
use Rattle.ild_data.specs.Data.{Data}
use Rattle.ild_data.specs.Spell.{spell, id_of}
use Rattle.ild_data.specs.Tree.{IsTree}
use Rattle.ild_dirty.specs.Beneath as B
use Rattle.ild_dirty.specs.Beneath.{AreTrees}
use Rattle.ild_beneath.specs.Children.{AreOf, Child, children_in, children_of}
use Rattle.ild_beneath.specs.Laws.{ChildrenArePlaces, DataAreRead}
use Rattle.ild_data.proofs.Apart.{one_meaning}
use Rattle.ild_data.specs.Limits.{IsWithin, deepest}
use Rattle.ild_run_beneath.specs.Trees.{TreesStand}
use Rattle.ild_run_commit.specs.Places.{HaveTrees}
use Rattle.ild_schema.specs.Slots.{plainly}
use Rattle.ild_schema.specs.declared.number.TypeNo.{TypeNo}
use Rattle.ild_schema.specs.declared.row.Row.{Row}
use Rattle.ild_script_batch.specs.Commits.{unkinded}
use Rattle.ild_typed.specs.Nested.{IsBlock}
use Rattle.ild_typed.specs.Stands.{bare, blocks_of}
use Rattle.ild_typed.specs.StandLaws.{BareIsFrame}
use Rattle.ild_typed.specs.TreeLaws.{StorableBlocks}
use Rattle.ild_typed.proofs.TreeValues.{whole_tree}
use Rattle.ild_typed_places.specs.Places.{Places, nowhere, place, joined, blocks_in, places_in, value_places}
use Rattle.ild_typed_places.proofs.Joining.{All, all_both}
use Rattle.ild_typed_places.proofs.Telling.{to_places}
use Rattle.ild_beneath.proofs.Nodes.{joined_none}
use Rattle.ild_schema.specs.Accept.{IsAccepted}
use Rattle.ild_schema.specs.Table.{IsTable}
use Rattle.ild_typed.specs.Schema.{IsSchema}
use Rattle.ild_view_doc.specs.declared.doc.Doc.{Doc}
use Rattle.ild_view_doc.specs.Docs.{table_in, type_in}

module _ (read : DataAreRead) (rows : List Row) (ty : TypeNo) where
  -- a block tells what the data tell that it spells
  told : (b : List ℕ) (kind : ℕ) (d : Data) → IsBlock b → IsTree d → b ≡ spell d → children_of rows ty kind b ≡ children_in rows ty kind d
  told b kind d block tree is =
      let same : d ≡ block.of = one_meaning d block.of tree block.within.tree (let short = block.within.sized in omega (arith, short, ap length (sym is ∙ block.is))) (sym is ∙ block.is) in
      let spelled : IsBlockOf b d = record { within = subst IsWithin (sym same) block.within; spelled = is } in
      ap (λ o. option_map_or (children_in rows ty kind) o []) (read b d spelled)

  pub record Built (cs : List Child) (ps : Places) : Type 0 where
    pub trees : B.Places
    pub are : AreTrees (children_of rows ty) cs trees
    pub same : unkinded trees ≡ ps

  pub built : (cs : List Child) (ps : Places) → AreOf rows ty cs ps → All IsBlock ps → Built cs ps
  built [] nowhere of blocks = record { trees = B.no_places; are = tt; same = refl }
  built [] (place b beneath ps) of blocks = absurd of
  built (c ∷ cs) nowhere of blocks = absurd of
  built (c ∷ cs) (place b beneath ps) of blocks =
      let parts = all_split IsBlock (blocks_in beneath) (blocks_in ps) blocks.1 in
      let x = built (children_in rows ty c.1 of.1.0) beneath of.1.3 parts.0 in
      let y = built cs ps of.2 parts.1 in
      record {
        trees = B.beside (B.place b c.1 x.trees) y.trees;
        are = (of.0, refl, subst (λ ds. AreTrees (children_of rows ty) ds x.trees) (sym (told b c.1 of.1.0 blocks.0 of.1.1 of.1.2)) x.are, y.are);
        same = λ i. place b (x.same i) (y.same i);
      }

pub trees_stand : DataAreRead → ChildrenArePlaces → StorableBlocks → BareIsFrame → TreesStand
trees_stand read places blocks frame h d schema v t storable =
    let rows = table_in d in
    let ty = type_in d in
    let tree = whole_tree h rows schema.table.texts.spelled deepest (plainly ty) v t storable.fits storable.tree in
    let all : AllByRecursion IsBlock (blocks_of bare h rows ty v t) = blocks bare frame h rows schema ty v t storable in
    let each : All IsBlock (value_places bare h rows ty v t) = to_places IsBlock bare h rows ty v t all in
    let below : All IsBlock (joined (places_in h rows (plainly ty) v) nowhere) = (all_split IsBlock (blocks_in (joined (places_in h rows (plainly ty) v) nowhere)) [] each.1).0 in
    let x = built read rows ty (children_in rows ty 0 t) (places_in h rows (plainly ty) v) (places h rows schema ty v t storable) (all_both IsBlock (places_in h rows (plainly ty) v) nowhere below).0 in
    let root : children_of rows ty 0 (spell t) ≡ children_in rows ty 0 t = told read rows ty (spell t) 0 t all.0 tree.tree refl in
    record {
      home = B.place (spell t) 0 x.trees;
      stands = record { top = refl; same_kind = refl; tree = subst (λ cs. AreTrees (children_of rows ty) cs x.trees) (sym root) x.are };
      places = λ i. place (spell t) ((x.same ∙ sym (joined_none (places_in h rows (plainly ty) v))) i) nowhere;
    }

-- what follows from the trees of a document follows where its table was accepted
pub committed : TreesStand → (d : Doc) (rows acc : List Row) (ty : TypeNo) (C : Type 0) → IsTable rows → IsAccepted rows → rows ≡ table_in d → acc ≡ table_in d → ty ≡ type_in d
    → (HaveTrees id_of d 0 (children_of acc ty) → C) → C
committed trees d rows acc ty C table accepted is one two commits =
    let schema : IsSchema (table_in d) = subst IsSchema is (record { table = table; accepted = accepted }) in
    commits (subst (λ r. HaveTrees id_of d 0 (children_of r ty)) (sym one) (subst (λ n. HaveTrees id_of d 0 (children_of (table_in d) n)) (sym two) (trees id_of d schema)))
