-- The item in which the piece of a part stands.
use Rattle.std.proofs.Common.{◌≡◌, ℕ, List, [], ◌∷◌, ◌++◌, Bool, true, false, ◌||◌, Option, Some, None, is_some, Result, Ok, Err, refl, sym, ◌∙◌, ap, subst}
use Rattle.std.specs.Prelude.{slice_get}
use Rattle.std.specs.Option.{option_and_then, option_map_or}
use Rattle.std.specs.List.{AllByRecursion}
use Rattle.ild_cbor.specs.declared.node.Node.{Node}
use Rattle.ild_cbor.specs.declared.piece.Piece.{Piece}
use Rattle.ild_cbor.specs.declared.piece.Piece.TheVariants as P
use Rattle.ild_layer_places.proofs.Refusing.{at_spot}
use Rattle.ild_data.specs.Data.{Data}
use Rattle.ild_layer_piece.specs.Pieces.{form_key, inline_key, passed_key}
use Rattle.ild_layer_places.specs.Ending.{has_inline}
use Rattle.ild_layer_places.specs.Refusing.{IsInside, IsNoInline, IsPassing}
use Rattle.ild_schema.specs.Copies.{base}
use Rattle.ild_schema.specs.Rows.{def_at}
use Rattle.ild_schema.specs.Slots.{form_of}
use Rattle.ild_schema.specs.declared.def.Member.{Member}
use Rattle.ild_schema.specs.declared.def.TypeDef.{TypeDef}
use Rattle.ild_schema.specs.declared.def.TypeDef.TheVariants as D
use Rattle.ild_schema.specs.declared.def.UnionDef.{UnionDef}
use Rattle.ild_schema.specs.declared.def.StructDef.{StructDef}
use Rattle.ild_schema.specs.declared.def.UnionForm.{UnionForm}
use Rattle.ild_schema.specs.declared.def.UnionForm.TheVariants as UF
use Rattle.ild_schema.specs.declared.number.Slot.{Slot}
use Rattle.ild_schema.specs.declared.row.Row.{Row}
use Rattle.ild_typed.specs.Layer.{Layer}
use Rattle.ild_typed.specs.Layer as L
use Rattle.ild_typed.specs.Refused.{AreParts}
use Rattle.ild_typed.specs.Spots.{Spot, member_spots, member_steps, spots_of}
use Rattle.ild_union.specs.Forms.{IsInlineOf, IsPassedBy, passes_over}
use Rattle.ild_view_walk.specs.declared.opening.Opening.{Opening}
use Rattle.ild_view_walk.specs.declared.opening.Stop.{Stop}
use Rattle.ild_layer_parts.specs.declared.part.Part.{Part}
use Rattle.ild_layer_parts.specs.declared.parts.Parts.{Parts}
use Rattle.ild_layer_parts.specs.declared.parts.Parts.TheVariants as PS
use Rattle.ild_layer_parts.specs.PassedOver.{AreInside, IsPieceOf}
use Rattle.ild_view_walk.specs.inside.Inside.{IsOpenInside, OpensMany, is_many}
use Rattle.ild_layer_parts.specs.Ready.{IsInlined, is_struct}

-- ---- where no discriminant stands inline

pub no_inline : (rows : List Row) (ty n : ℕ) (found known : TypeDef) → n ≡ base rows ty → def_at rows n ≡ Some found → found ≡ known → inline_key known ≡ None → is_some (passed_key rows ty) ≡ false
no_inline rows ty n found known at there same none =
    ap (λ k. is_some (option_and_then inline_key (def_at rows k))) (sym at) ∙ ap (λ o. is_some (option_and_then inline_key o)) (there ∙ ap Some same) ∙ ap is_some none

module _ (rows : List Row) (ty : ℕ) (y : Piece) (none : is_some (passed_key rows ty) ≡ false) where
  many_inside : (parts : Parts) → is_many parts ≡ true → AreInside rows ty y parts
  many_inside PS.Nothing e = tt
  many_inside (PS.List s) e = none
  many_inside (PS.Map s) e = none
  many_inside (PS.Root s) e = none
  many_inside (PS.Struct s) e = none
  many_inside (PS.Member x) e = absurd cc
  many_inside (PS.Texts s) e = none
  many_inside (PS.Pairs s) e = none

  pub opens_inside : (r : Result (Option Opening) Stop) → OpensMany r → IsOpenInside rows ty y r
  opens_inside (Ok None) many = tt
  opens_inside (Ok (Some x)) many = many_inside x.parts many
  opens_inside (Err stop) many = tt

-- ---- the member of a union

pub member_piece : (rows : List Row) (ty : ℕ) (y : Piece) (x : Part) (part : Piece) → x.piece ≡ part → passes_over y ≡ false → IsInlineOf rows ty y part → IsPassedBy rows ty y part → IsPieceOf rows ty y x
member_piece rows ty y x part same plain inline passed = record {
  inline = subst (IsInlineOf rows ty y) (sym same) inline;
  passed = λ e. by (is_some (passed_key rows ty)) (passes_over y) plain (passed (sym (ap passes_over same) ∙ e));
}
  where
    by : (a b : Bool) → b ≡ false → (a || b) ≡ true → a ≡ true
    by true b none e = refl
    by false b none e = absurd (cc (sym none ∙ e))

-- its way is none where the discriminant stands inline
all_here : (k : List ℕ) (u : UnionDef) (l : Layer Data) → u.form ≡ UF.Inline k → AllByRecursion (λ (q : Spot). q.at ≡ []) (spots_of (D.Union u) l)
all_here k u (L.union n d) form = by (slice_get u.members n) where
  by : (o : Option Member) → AllByRecursion (λ (q : Spot). q.at ≡ []) (option_map_or (member_spots u.form d) o [])
  by None = tt
  by (Some m) = (ap (λ f. member_steps f m) form, tt)
all_here k u l form = tt

inline_union : (d : TypeDef) → has_inline d ≡ true → (u : UnionDef) × (k : List ℕ) × (d ≡ D.Union u) × (u.form ≡ UF.Inline k)
inline_union (D.Union u) e = by u.form refl e where
  by : (f : UnionForm) → u.form ≡ f → is_some (form_key f) ≡ true → (v : UnionDef) × (k : List ℕ) × (D.Union u ≡ D.Union v) × (v.form ≡ UF.Inline k)
  by (UF.Inline k) same e = (u, k, refl, same)
  by f same e = absurd cc
inline_union d e = absurd cc

pub inline_here : (d : TypeDef) (t : Data) (done : List Spot) (p : Spot) (others : List Spot) → has_inline d ≡ true → AreParts d t (done ++ p ∷ others) → p.at ≡ []
inline_here d t done p others some are =
    let x = inline_union d some in
    let own : AreParts (D.Union x.0) t (done ++ p ∷ others) = subst (λ e. AreParts e t (done ++ p ∷ others)) x.2 are in
    at_spot (λ (q : Spot). q.at ≡ []) done p others (subst (AllByRecursion (λ (q : Spot). q.at ≡ [])) (sym own.2) (all_here x.1 x.0 own.0 x.3))

-- ---- what is asked of a part where it is refused

module _ (rows : List Row) (s : Slot) (d : TypeDef) (is : form_of rows s ≡ Some d) (y : Piece) where
  passed_is : is_some (passed_key rows s.ty.0) ≡ has_inline d
  passed_is = ap (λ o. is_some (option_and_then inline_key o)) is

  pub part_inside : (t : Data) (done : List Spot) (p : Spot) (others : List Spot) → AreParts d t (done ++ p ∷ others) → (x : Part) → IsPieceOf rows s.ty.0 y x → IsInside y x.piece d t p
  part_inside t done p others are x own = by x.piece own.inline own.passed where
    whole : (z : Piece) → ((n : Node) → z ≡ P.Inline n s.ty.0 → ⊥) → IsInlineOf rows s.ty.0 y z → IsNoInline y d p
    whole z other inline = at y where
      at : (w : Piece) → IsNoInline w d p
      at (P.Node n) = λ a b some. let q = inline (passed_is ∙ some) in other q.0 q.2
      at (P.Inline n u) = tt
      at (P.Text a) = tt
      at (P.Bytes a) = tt

    never : (m n : Node) (u : ℕ) → P.Node m ≡ P.Inline n u → ⊥
    never m n u e = cc

    node_in : (m n : Node) (u v : ℕ) → P.Inline m u ≡ P.Inline n v → n ≡ m
    node_in m n u v e = cc

    by : (z : Piece) → IsInlineOf rows s.ty.0 y z → (passes_over z ≡ true → is_some (passed_key rows s.ty.0) ≡ true) → IsInside y z d t p
    by (P.Node m) inline passed = whole (P.Node m) (λ n e. never m n s.ty.0 e) inline
    by (P.Inline m u) inline passed =
        let some = passed refl in
        let q = inline some in
        (inline_here d t done p others (sym passed_is ∙ some) are, q.1 ∙ ap P.Node (node_in m q.0 u s.ty.0 q.2))
    by (P.Text a) inline passed = tt
    by (P.Bytes a) inline passed = tt

  pub type_passing : IsInlined rows s y → IsPassing y d
  type_passing inlined n u same = struct_of d (sym (ap (λ o. option_map_or is_struct o false) is) ∙ inlined (ap passes_over same)) where
    struct_of : (e : TypeDef) → is_struct e ≡ true → (st : StructDef) × (e ≡ D.Struct st)
    struct_of (D.Struct st) told = (st, refl)
    struct_of e told = absurd cc
