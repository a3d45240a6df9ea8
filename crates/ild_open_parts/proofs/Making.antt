-- Leaves: the layer that a piece is tells the value.
use Rattle.std.proofs.Common.{◌≡◌, ℕ, List, Bool, Option, Some, None, option_map, refl, sym, ◌∙◌, ap, subst}
use Rattle.std.specs.Prelude.{ℤ, option_and_then}
use Rattle.std.proofs.lemmas.Option.{same_Some, none-some}
use Rattle.ild_cbor.specs.Scalar.{boolean_of, int_of, link_of}
use Rattle.ild_enum.proofs.Members.{integer_is}
use Rattle.ild_typed.proofs.Entries.{only_text_data, only_bytes_data}
use Rattle.ild_typed.proofs.WalkSound.{any_is}
use Rattle.ild_data.specs.Data as T
use Rattle.ild_data.specs.Data.{Data}
use Rattle.ild_schema.specs.Copies.{base}
use Rattle.ild_schema.specs.Table.{def_at}
use Rattle.ild_schema.specs.declared.def.TypeDef.{TypeDef}
use Rattle.ild_schema.specs.declared.def.TypeDef.TheVariants as D
use Rattle.ild_schema.specs.declared.number.Slot.{Slot}
use Rattle.ild_schema.specs.declared.number.TypeNo.{TypeNo}
use Rattle.ild_schema.specs.declared.row.Row.{Row}
use Rattle.ild_schema.specs.Slots.{form_of}
use Rattle.ild_schema.specs.Value as V
use Rattle.ild_schema.specs.Value.{Value}
use Rattle.ild_typed.specs.Composed.{any_data, composed}
use Rattle.ild_typed.specs.Hamt.{alone}
use Rattle.ild_typed.specs.Layer as L
use Rattle.ild_typed.specs.Layer.{Layer, as_any}
use Rattle.ild_typed.specs.Schema.{IsSchema}
use Rattle.ild_typed.specs.Strings.{bytes_in, text_in}
use Rattle.ild_typed.proofs.Basics.{map_from, then_from}
use Rattle.ild_layer_piece.specs.Answers.{Layered}
use Rattle.ild_open_held.specs.Leaves.{leaf_of}
use Rattle.ild_open_held.proofs.Plainly.{leaves_are_held}
use Rattle.ild_open_held.specs.Held.{IsHeld}
use Rattle.ild_open_held.specs.Laws.{IsFronted}
use Rattle.ild_open_parts.proofs.Forming.{front_layer}

boolean_is : (t : Data) (b : Bool) → boolean_of t ≡ Some b → t ≡ T.boolean b
boolean_is (T.boolean c) b e = ap T.boolean (same_Some c b e)
boolean_is t b e = absurd (none-some b e)

link_is : (t : Data) (s : List ℕ) → link_of t ≡ Some s → t ≡ T.link s
link_is (T.link c) s e = ap T.link (same_Some c s e)
link_is t s e = absurd (none-some s e)

module _ (rows : List Row) (schema : IsSchema rows) (s : Slot) (t : Data) where
  abbrev pub Leaf : Value → Type 0
  Leaf v = (block : List ℕ → Option (List ℕ)) (h : List ℕ → List ℕ) (room : ℕ) → IsFronted rows room s t → IsHeld block h rows room s t v

  leaf_is : (d : TypeDef) (l : Layer Data) (v : Value) → form_of rows s ≡ Some d → leaf_of l ≡ Some v → composed alone d l ≡ Some t → Leaf v
  leaf_is d l v is leaf made = λ block h room front. leaves_are_held block h rows schema room s t front d l v is leaf made

  pub boolean_leaf : (b : Bool) → form_of rows s ≡ Some D.Bool → Some b ≡ boolean_of t → Leaf (V.boolean b)
  boolean_leaf b is e = leaf_is D.Bool (L.boolean b) (V.boolean b) is refl (ap Some (sym (boolean_is t b (sym e))))

  pub int_leaf : (n : ℤ) → form_of rows s ≡ Some D.Int → Some n ≡ int_of t → Leaf (V.integer n)
  int_leaf n is e = leaf_is D.Int (L.integer n) (V.integer n) is refl (ap Some (sym (integer_is t n (sym e))))

  pub text_leaf : (x y : List ℕ) → form_of rows s ≡ Some D.Text → Some y ≡ text_in t → x ≡ y → Leaf (V.text x)
  text_leaf x y is e same = leaf_is D.Text (L.text x) (V.text x) is refl (ap Some (ap T.text same ∙ sym (only_text_data t y (sym e))))

  pub bytes_leaf : (x y : List ℕ) → form_of rows s ≡ Some D.Bytes → Some y ≡ bytes_in t → x ≡ y → Leaf (V.bytes x)
  bytes_leaf x y is e same = leaf_is D.Bytes (L.bytes x) (V.bytes x) is refl (ap Some (ap T.bytes same ∙ sym (only_bytes_data t y (sym e))))

  pub link_leaf : (target : TypeNo) (x y : List ℕ) → form_of rows s ≡ Some (D.Link target) → Some y ≡ link_of t → x ≡ y → Leaf (V.link x)
  link_leaf target x y is e same = leaf_is (D.Link target) (L.link x) (V.link x) is refl (ap Some (ap T.link same ∙ sym (link_is t y (sym e))))

  pub any_leaf : (d : Data) → form_of rows s ≡ Some D.Any → d ≡ t → Leaf (V.any d)
  any_leaf d is same = λ block h room front.
      let x = front_layer rows room s t D.Any is front in
      let y = then_from any_data (as_any x.0) t x.1 in
      let made : any_data t ≡ Some t = subst (λ e. any_data e ≡ Some t) (any_is y.item t y.made) y.made in
      subst (λ e. IsHeld block h rows room s t (V.any e)) (sym same) (leaves_are_held block h rows schema room s t front D.Any (L.any t) (V.any t) is refl made)

  pub layered_leaf : (d : TypeDef) (l : Layer Data) (v : Value) → form_of rows s ≡ Some d → leaf_of l ≡ Some v → Layered rows s.ty.0 t l → Leaf v
  layered_leaf d l v is leaf made = leaf_is d l v is leaf (ap (λ o. option_and_then (λ (c : TypeDef). composed alone c l) o) (sym is) ∙ made)

pub form_is : (rows : List Row) (s : Slot) (b : ℕ) (def own : TypeDef) → b ≡ base rows s.ty.0 → def_at rows b ≡ Some def → def ≡ own → form_of rows s ≡ Some own
form_is rows s b def own same there is = ap (def_at rows) (sym same) ∙ there ∙ ap Some is

pub mapped_is : {A : Type 0} {B : Type 0} (f : A → B) (o : Option A) (a : A) (p : Option B) → o ≡ Some a → option_map f o ≡ p → Some (f a) ≡ p
mapped_is f o a p is e = ap (option_map f) (sym is) ∙ e

pub none_mapped : {A : Type 0} {B : Type 0} (f : A → B) (o : Option A) (p : Option B) → o ≡ None → option_map f o ≡ p → None ≡ p
none_mapped f o p is e = sym (ap (option_map f) is) ∙ e

-- data that were made of something show it
pub shows_one : {X : Type 0} (make : X → Data) (read : Data → Option X) (o : Option X) (t : Data) → ((x : X) → read (make x) ≡ Some x) → option_map make o ≡ Some t → None ≡ read t → ⊥
shows_one make read o t shows made none = let y = map_from make o t made in none-some y.item (none ∙ ap read (sym (same_Some (make y.item) t y.made)) ∙ shows y.item)
