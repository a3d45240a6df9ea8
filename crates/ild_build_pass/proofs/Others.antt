-- Where the type is a struct, a value that is none has no representation, and no HAMT of the type.
use Rattle.std.proofs.Common.{◌≡◌, ℕ, ◌+◌, List, cond, false, Some, None, option_map, refl, ap, ◌∙◌}
use Rattle.std.specs.Prelude.{option_and_then}
use Rattle.std.specs.Option.{option_map_or}
use Rattle.ild_data.specs.Data as T
use Rattle.ild_data.specs.Data.{Data}
use Rattle.ild_data.specs.Spell.{spell}
use Rattle.ild_schema.specs.declared.number.Slot.{Slot}
use Rattle.ild_schema.specs.declared.def.TypeDef.TheVariants as D
use Rattle.ild_schema.specs.declared.def.StructDef.{StructDef}
use Rattle.ild_schema.specs.declared.def.UnionForm.{UnionForm}
use Rattle.ild_schema.specs.declared.row.Row.{Row}
use Rattle.ild_schema.specs.declared.val.Val.{Val}
use Rattle.ild_schema.specs.declared.val.Val.TheVariants as W
use Rattle.ild_schema.specs.Slots.{form_of}
use Rattle.ild_schema.specs.Value as V
use Rattle.ild_schema.specs.Value.{Value, Optionals}
use Rattle.ild_schema.specs.ValueSeen.{value_of}
use Rattle.ild_typed.specs.Composed.{marked_form}
use Rattle.ild_typed.specs.Hamt.{whole}
use Rattle.ild_typed.specs.Layer as L
use Rattle.ild_typed.specs.Layer.{Layer}
use Rattle.ild_typed.specs.Represented.{represented, represented_values, represented_pairs, layered}
use Rattle.ild_typed.specs.Slots.{element_of, member_of}
use Rattle.ild_build_entries.specs.declared.nodes.Nodes.{Nodes}
use Rattle.ild_build_pass.specs.Writes.{Writes}
use Rattle.ild_build_pass.specs.inside.Made.{marked_made}
use Rattle.ild_build_pass.specs.Weights.{Weight, weigh, weigh_values, weigh_pairs, hamt_weight}
use Rattle.ild_build_pass.proofs.Flow.{leaf}
use Rattle.ild_build_pass.proofs.Writing.{wrote_none}

abbrev pub IsNoStruct : Value → Type 0
IsNoStruct (V.struct os) = ⊥
IsNoStruct v = Unit {0}

pub no_struct : (val : Val) → ((x : Optionals) → val ≡ W.Struct x → ⊥) → IsNoStruct (value_of val)
no_struct W.Null other = tt
no_struct (W.Bool x) other = tt
no_struct (W.Int x) other = tt
no_struct (W.Text x) other = tt
no_struct (W.Bytes x) other = tt
no_struct (W.Link x) other = tt
no_struct (W.Any x) other = tt
no_struct W.Unit other = tt
no_struct (W.Enum x) other = tt
no_struct (W.List x) other = tt
no_struct (W.Map x) other = tt
no_struct (W.Struct x) other = absurd (other x refl)
no_struct (W.Union n x) other = tt

module _ (hash : List ℕ → List ℕ) (rows : List Row) (s : Slot) (sd : StructDef) (is : form_of rows s ≡ Some (D.Struct sd)) where
  layer_none : (l : Layer Data) → layered (whole hash) (Some (D.Struct sd)) (Some l) ≡ None → layered (whole hash) (form_of rows s) (Some l) ≡ None
  layer_none l e = ap (λ o. layered (whole hash) o (Some l)) is ∙ e

  data_none : s.nullable ≡ false → (v : Value) → IsNoStruct v → represented (whole hash) rows s v ≡ None
  data_none plain V.null other = ap (λ b. cond b (Some T.null) None) plain
  data_none plain (V.boolean b) other = layer_none (L.boolean b) refl
  data_none plain (V.integer n) other = layer_none (L.integer n) refl
  data_none plain (V.text t) other = layer_none (L.text t) refl
  data_none plain (V.bytes t) other = layer_none (L.bytes t) refl
  data_none plain (V.link t) other = layer_none (L.link t) refl
  data_none plain (V.any d) other = layer_none (L.any d) refl
  data_none plain V.unit other = layer_none L.unit refl
  data_none plain (V.enum n) other = layer_none (L.enum n) refl
  data_none plain (V.hamt d) other = layer_none (L.hamt d) refl
  data_none plain (V.list vs) other = ap (λ o. layered (whole hash) o (option_map L.list (option_and_then (λ u. represented_values (whole hash) rows u vs) (element_of o)))) is
  data_none plain (V.map ps) other = ap (λ o. layered (whole hash) o (option_map L.map (option_and_then (λ u. represented_pairs (whole hash) rows u ps) (element_of o)))) is
  data_none plain (V.union n v) other = ap (λ o. layered (whole hash) o (option_map (L.union n) (option_and_then (λ u. represented (whole hash) rows u v) (member_of o n)))) is
  data_none plain (V.struct os) other = absurd other

  pub none_made : s.nullable ≡ false → (v : Value) → IsNoStruct v → (f : UnionForm) (name : List ℕ) → marked_made (whole hash) rows f s v name ≡ None
  none_made plain v other f name = ap (λ o. option_map spell (option_and_then (λ d. marked_form f d name) o)) (data_none plain v other)

  pub none_weighs : (v : Value) → IsNoStruct v → (μ : Weight) → weigh μ rows s v ≡ 0
  none_weighs V.null other μ = refl
  none_weighs (V.boolean b) other μ = refl
  none_weighs (V.integer n) other μ = refl
  none_weighs (V.text t) other μ = refl
  none_weighs (V.bytes t) other μ = refl
  none_weighs (V.link t) other μ = refl
  none_weighs (V.any d) other μ = refl
  none_weighs V.unit other μ = refl
  none_weighs (V.enum n) other μ = refl
  none_weighs (V.hamt d) other μ = refl
  none_weighs (V.list vs) other μ = ap (λ o. option_map_or (λ u. weigh_values μ rows u vs) (element_of o) 0) is
  none_weighs (V.map ps) other μ = ap (λ o. hamt_weight μ o ps + option_map_or (λ u. weigh_pairs μ rows u ps) (element_of o) 0) is
  none_weighs (V.union n v) other μ = ap (λ o. option_map_or (λ u. weigh μ rows u v) (member_of o n) 0) is
  none_weighs (V.struct os) other μ = absurd other

  pub nothing : s.nullable ≡ false → (val : Val) → ((x : Optionals) → val ≡ W.Struct x → ⊥) → (f : UnionForm) (name out : List ℕ) (was : Nodes)
      → Writes hash rows (marked_made (whole hash) rows f s (value_of val) name) (λ μ. weigh μ rows s (value_of val)) out out was was
  nothing plain val other f name out was =
      leaf hash rows (marked_made (whole hash) rows f s (value_of val) name) (λ μ. weigh μ rows s (value_of val)) out out was (none_weighs (value_of val) (no_struct val other))
      (wrote_none (marked_made (whole hash) rows f s (value_of val) name) out (none_made plain (value_of val) (no_struct val other) f name))
