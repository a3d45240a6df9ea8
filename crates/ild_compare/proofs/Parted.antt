-- Two values with one root are one, or a block of the one and a block of the other collide.
use Rattle.std.proofs.Common.{◌≡◌, ◌≢◌, ◌⊎◌, inl, inr, ℕ, List, [], ◌∷◌, Bool, true, false, Option, Some, refl, sym, ap, ◌∙◌, subst}
use Rattle.std.specs.Prelude.{Contains}
use Rattle.std.specs.List.{AllByRecursion}
use Rattle.std.specs.Cmp.Lexicographic.{same_text as texts_same, other_text}
use Rattle.ild_beneath.specs.Children.{AreOf, Child, children_in, children_of}
use Rattle.ild_data.proofs.AllOf.{all_split}
use Rattle.ild_data.specs.Bytes.{AreBytes}
use Rattle.ild_data.specs.Key.{same_text}
use Rattle.ild_data.specs.Limits.{deepest}
use Rattle.ild_data.specs.Spell.{id_of, spell}
use Rattle.ild_data.specs.Tree.{IsTree}
use Rattle.ild_schema.specs.Slots.{plainly}
use Rattle.ild_schema.specs.Value.{Value}
use Rattle.ild_schema.specs.declared.number.TypeNo.{TypeNo}
use Rattle.ild_schema.specs.declared.row.Row.{Row}
use Rattle.ild_typed.proofs.Rooms.{all_more}
use Rattle.ild_typed.proofs.TreeKept.{one_stands}
use Rattle.ild_typed.proofs.TreeValues.{whole_tree}
use Rattle.ild_typed.specs.Nested.{IsBlock}
use Rattle.ild_typed.specs.Schema.{IsSchema}
use Rattle.ild_typed.specs.Stands.{Stands, bare, blocks_of}
use Rattle.ild_typed_places.proofs.Joining.{All}
use Rattle.ild_typed_places.proofs.Listing.{all_one}
use Rattle.ild_typed_places.proofs.Telling.{from_places, to_places}
use Rattle.ild_typed_places.specs.Places.{Places, nowhere, place, blocks_in, joined, value_places}
use Rattle.ild_compare.specs.Laws.{AnswersBytes, HaveCollision, PartedValuesCollide}
use Rattle.ild_compare.proofs.Placing.{are_blocks, bare_frame, home, home_all, root_tells, told}

decided : (d e : List ℕ) → (d ≡ e) ⊎ (d ≢ e)
decided d e = by (same_text d e) refl where
  by : (t : Bool) → t ≡ same_text d e → (d ≡ e) ⊎ (d ≢ e)
  by true is = inl (texts_same d e is)
  by false is = inr (other_text d e is)

-- a block of bytes that is among these
record Known (bs : List (List ℕ)) (b : List ℕ) : Type 0 where
  block : IsBlock b
  among : Contains bs b
  bytes : AreBytes b

all_known : (bs cs : List (List ℕ)) → AllByRecursion IsBlock cs → AllByRecursion (Contains bs) cs → AllByRecursion AreBytes cs → AllByRecursion (Known bs) cs
all_known bs [] a b c = tt
all_known bs (d ∷ cs) a b c = (record { block = a.0; among = b.0; bytes = c.0 }, all_known bs cs a.1 b.1 c.1)

module _ (rows : List Row) (ty : TypeNo) (left right : List (List ℕ)) where
  collision : (d e : List ℕ) → Known left d → Known right e → id_of d ≡ id_of e → d ≢ e → HaveCollision left right
  collision d e a b one differ =
      record { first = d; second = e; of_left = a.among; of_right = b.among; collide = record { kept_bytes = a.bytes; new_bytes = b.bytes; differ = differ; one_id = one } }

  one_or_parts : (cs : List Child) (ps qs : Places) → AreOf rows ty cs ps → AreOf rows ty cs qs → All (Known left) ps → All (Known right) qs → (ps ≡ qs) ⊎ HaveCollision left right
  one_or_parts [] nowhere nowhere of ou a b = inl refl
  one_or_parts [] (place e bp ps) qs of ou a b = absurd of
  one_or_parts [] nowhere (place e bq qs) of ou a b = absurd ou
  one_or_parts (c ∷ cs) nowhere qs of ou a b = absurd of
  one_or_parts (c ∷ cs) (place d bp ps) nowhere of ou a b = absurd ou
  one_or_parts (c ∷ cs) (place d bp ps) (place e bq qs) of ou a b =
      by (decided d e) (λ p q x y. one_or_parts (children_of rows ty c.1 d) bp bq p q x y) (one_or_parts cs ps qs of.2 ou.2 below.1 beneath.1) where
        below : All (Known left) bp × All (Known left) ps
        below = all_split (Known left) (blocks_in bp) (blocks_in ps) a.1

        beneath : All (Known right) bq × All (Known right) qs
        beneath = all_split (Known right) (blocks_in bq) (blocks_in qs) b.1

        joins : d ≡ e → (bp ≡ bq) ⊎ HaveCollision left right → (ps ≡ qs) ⊎ HaveCollision left right → (place d bp ps ≡ place e bq qs) ⊎ HaveCollision left right
        joins same (inl down) (inl rest) = inl (λ i. place (same i) (down i) (rest i))
        joins same (inr x) rest = inr x
        joins same (inl down) (inr x) = inr x

        by : (d ≡ e) ⊎ (d ≢ e)
            → (AreOf rows ty (children_of rows ty c.1 d) bp → AreOf rows ty (children_of rows ty c.1 d) bq → All (Known left) bp → All (Known right) bq → (bp ≡ bq) ⊎ HaveCollision left right)
            → (ps ≡ qs) ⊎ HaveCollision left right → (place d bp ps ≡ place e bq qs) ⊎ HaveCollision left right
        by (inl same) down rest =
            let tells : children_of rows ty c.1 d ≡ children_in rows ty c.1 of.1.0 = told rows ty d c.1 of.1.0 a.0.block of.1.1 of.1.2 in
            let says : children_of rows ty c.1 d ≡ children_in rows ty c.1 ou.1.0 = ap (children_of rows ty c.1) same ∙ told rows ty e c.1 ou.1.0 b.0.block ou.1.1 ou.1.2 in
            joins same (down (subst (λ (ds : List Child). AreOf rows ty ds bp) (sym tells) of.1.3) (subst (λ (ds : List Child). AreOf rows ty ds bq) (sym says) ou.1.3) below.0 beneath.0) rest
        by (inr differ) down rest = inr (collision d e a.0 b.0 (of.0 ∙ sym ou.0) differ)

module _ (h : List ℕ → List ℕ) (rows : List Row) (schema : IsSchema rows) (ty : TypeNo) (id : List ℕ) where
  module _ (block : List ℕ → Option (List ℕ)) (bytes : AnswersBytes block) (v : Value) (x : Stands bare block h rows ty id v) where
    abbrev own : List (List ℕ)
    own = blocks_of bare h rows ty v x.tree

    known : AllByRecursion (Known own) own
    known = all_known own own (are_blocks h rows schema ty v x.tree x.storable) (all_one own) (all_more (λ b. block (id_of b) ≡ Some b) AreBytes (λ b here. bytes (id_of b) b here) own x.all)

  parted : (left right : List ℕ → Option (List ℕ)) → AnswersBytes left → AnswersBytes right → (v w : Value) (x : Stands bare left h rows ty id v) (y : Stands bare right h rows ty id w)
      → (v ≡ w) ⊎ HaveCollision (blocks_of bare h rows ty v x.tree) (blocks_of bare h rows ty w y.tree)
  parted left right lb rb v w x y = by (decided (spell x.tree) (spell y.tree)) where
    bs : List (List ℕ)
    bs = blocks_of bare h rows ty v x.tree

    cs : List (List ℕ)
    cs = blocks_of bare h rows ty w y.tree

    R : List ℕ → Type 0
    R b = right (id_of b) ≡ Some b

    tree : IsTree x.tree
    tree = (whole_tree h rows schema.table.texts.spelled deepest (plainly ty) v x.tree x.storable.fits x.storable.tree).tree

    tree_right : IsTree y.tree
    tree_right = (whole_tree h rows schema.table.texts.spelled deepest (plainly ty) w y.tree y.storable.fits y.storable.tree).tree

    one : spell x.tree ≡ spell y.tree → home h rows schema ty v x.tree x.storable ≡ home h rows schema ty w y.tree y.storable → v ≡ w
    one same places =
        let all_same : value_places bare h rows ty v x.tree ≡ value_places bare h rows ty w y.tree = λ i. place (same i) (joined (places i) nowhere) nowhere in
        let all = from_places R bare h rows ty v x.tree (subst (All R) (sym all_same) (to_places R bare h rows ty w y.tree y.all)) in
        one_stands bare bare_frame right h rows schema ty id v w (record { tree = x.tree; storable = x.storable; root = x.root; all = all }) y

    ends : spell x.tree ≡ spell y.tree → (home h rows schema ty v x.tree x.storable ≡ home h rows schema ty w y.tree y.storable) ⊎ HaveCollision bs cs → (v ≡ w) ⊎ HaveCollision bs cs
    ends same (inl places) = inl (one same places)
    ends same (inr c) = inr c

    by : (spell x.tree ≡ spell y.tree) ⊎ (spell x.tree ≢ spell y.tree) → (v ≡ w) ⊎ HaveCollision bs cs
    by (inl same) =
        let a = known left lb v x in
        let b = known right rb w y in
        let of = root_tells h rows schema ty v x.tree x.storable (spell x.tree) a.0.block tree refl in
        let ou = root_tells h rows schema ty w y.tree y.storable (spell y.tree) b.0.block tree_right refl in
        ends same (one_or_parts rows ty bs cs (children_of rows ty 0 (spell x.tree)) (home h rows schema ty v x.tree x.storable) (home h rows schema ty w y.tree y.storable) of
        (subst (λ (s : List ℕ). AreOf rows ty (children_of rows ty 0 s) (home h rows schema ty w y.tree y.storable)) (sym same) ou)
        (home_all h rows schema ty v x.tree x.storable (Known bs) a) (home_all h rows schema ty w y.tree y.storable (Known cs) b))
    by (inr differ) =
        let a = known left lb v x in
        let b = known right rb w y in
        inr (collision rows ty bs cs (spell x.tree) (spell y.tree) a.0 b.0 (sym x.root ∙ y.root) differ)

pub parted_collide : PartedValuesCollide
parted_collide h rows schema ty id left right lb rb v w x y apart = by (parted h rows schema ty id left right lb rb v w x y) where
  by : (v ≡ w) ⊎ HaveCollision (blocks_of bare h rows ty v x.tree) (blocks_of bare h rows ty w y.tree) → HaveCollision (blocks_of bare h rows ty v x.tree) (blocks_of bare h rows ty w y.tree)
  by (inl same) = absurd (apart same)
  by (inr c) = c
