-- The blocks of the empty value can be built: of no entry there is a trie, and its one block is short.
use Rattle.std.proofs.Common.{◌≡◌, ◌≤◌, ℕ, List, [], ◌∷◌, length, Bool, false, Option, Some, None, Err, refl, sym, ap, ◌∙◌, subst, arith}
use Rattle.std.specs.Prelude.{◌||◌, Contains, is_none, option_map, option_and_then}
use Rattle.std.specs.Option.{option_map_or}
use Rattle.std.proofs.lemmas.Bool.{false≢true}
use Rattle.ild_build_blocks.specs.Builds.{BuildAnswer}
use Rattle.ild_build_blocks.specs.declared.fault.BuildFault.{BuildFault}
use Rattle.ild_build_blocks.specs.declared.fault.BuildFault.TheVariants as B
use Rattle.ild_data.specs.Data.{Data}
use Rattle.ild_data.specs.Limits.{longest_block}
use Rattle.ild_data.specs.Spell.{spell}
use Rattle.ild_edges.specs.Store.{Moment}
use Rattle.ild_schema.specs.Slots.{form_of, plainly}
use Rattle.ild_schema.specs.Value as V
use Rattle.ild_schema.specs.Value.{Value}
use Rattle.ild_schema.specs.declared.def.MapForm.{MapForm}
use Rattle.ild_schema.specs.declared.def.MapForm.TheVariants as MF
use Rattle.ild_schema.specs.declared.def.TypeDef.{TypeDef}
use Rattle.ild_schema.specs.declared.def.TypeDef.TheVariants as D
use Rattle.ild_schema.specs.declared.number.Slot.{Slot}
use Rattle.ild_schema.specs.declared.number.TypeNo.{TypeNo}
use Rattle.ild_schema.specs.declared.row.Row.{Row}
use Rattle.ild_typed.specs.Hamt.{root_map, whole}
use Rattle.ild_typed.specs.Judged.{exhausts, is_exhausted, IsTooLong}
use Rattle.ild_typed.specs.Layer as L
use Rattle.ild_typed.specs.Layer.{Layer}
use Rattle.ild_typed.specs.Represented.{layered, represented}
use Rattle.ild_typed.specs.Slots.{element_of}
use Rattle.ild_run_open.specs.Empty.{IsEmpty}
use Rattle.ild_run_open.specs.inside.Steps.{IsOfEmpty}
use Rattle.ild_run_open.proofs.Empties.{by_form, is_one, nodes_gone, not_in_none}
use Rattle.ild_run_open.proofs.NoEntries.{empty_list_short, empty_map_short, empty_text_short, root_short, trie_of_none}

-- the data of no parts
abbrev no_data : List Data
no_data = []

abbrev no_pairs : List (List ℕ × Data)
no_pairs = []

module _ (h : List ℕ → List ℕ) (rows : List Row) where
  -- ---- of no entry there is a trie

  -- whether the layer has no trie, or one of its parts, of which there are none
  abbrev full : Option TypeDef → Value → Bool
  full o v = is_exhausted h rows o v || option_map_or (λ (u : Slot). false) (element_of o) false

  map_full : (key : TypeNo) (key_at : ℕ) (value : Slot) (at : ℕ) (form : MapForm) → full (Some (D.Map key key_at value at form)) (V.map V.no_pairs) ≡ false
  map_full key key_at value at MF.Map = refl
  map_full key key_at value at MF.ListPairs = refl
  map_full key key_at value at (MF.StringPairs inner entry) = refl
  map_full key key_at value at (MF.Hamt p) = ap (λ (o : Option Data). is_none o || false) (trie_of_none h p)

  not_full : (ty : TypeNo) (v : Value) → IsEmpty rows ty v → exhausts h rows (plainly ty) v ≡ false
  not_full ty v e =
      by_form (λ w. exhausts h rows (plainly ty) w ≡ false) (form_of rows (plainly ty)) (λ elem at is. subst (λ o. full o (V.list V.no_values) ≡ false) (sym is) refl)
      (λ key key_at value at form is. subst (λ o. full o (V.map V.no_pairs) ≡ false) (sym is) (map_full key key_at value at form))
      (form_of rows (plainly ty)) refl v e

  -- ---- its block is short

  -- the spelling of the data, where there are some
  abbrev IsShort : Option Data → Type 0
  IsShort None = Unit {0}
  IsShort (Some d) = length (spell d) ≤ longest_block

  -- the layers of the empty list and of the empty map
  abbrev list_layer : Option TypeDef → Option (Layer Data)
  list_layer o = option_map L.list (option_and_then (λ (u : Slot). Some no_data) (element_of o))

  abbrev map_layer : Option TypeDef → Option (Layer Data)
  map_layer o = option_map L.map (option_and_then (λ (u : Slot). Some no_pairs) (element_of o))

  map_short : (key : TypeNo) (key_at : ℕ) (value : Slot) (at : ℕ) (form : MapForm)
      → IsShort (layered (whole h) (Some (D.Map key key_at value at form)) (map_layer (Some (D.Map key key_at value at form))))
  map_short key key_at value at MF.Map = empty_map_short
  map_short key key_at value at MF.ListPairs = empty_list_short
  map_short key key_at value at (MF.StringPairs inner entry) = empty_text_short
  map_short key key_at value at (MF.Hamt p) = subst (λ (o : Option Data). IsShort (option_map (root_map p) o)) (sym (trie_of_none h p)) (root_short p)

  short : (ty : TypeNo) (v : Value) → IsEmpty rows ty v → IsShort (represented (whole h) rows (plainly ty) v)
  short ty v e =
      by_form (λ w. IsShort (represented (whole h) rows (plainly ty) w)) (form_of rows (plainly ty)) (λ elem at is. subst (λ o. IsShort (layered (whole h) o (list_layer o))) (sym is) empty_list_short)
      (λ key key_at value at form is. subst (λ o. IsShort (layered (whole h) o (map_layer o))) (sym is) (map_short key key_at value at form))
      (form_of rows (plainly ty)) refl v e

  not_long : (ty : TypeNo) (v : Value) → IsEmpty rows ty v → IsTooLong h rows (plainly ty) v → ⊥
  not_long ty v e x =
      let few : length (spell x.tree) ≤ longest_block = subst IsShort x.represented (short ty v e) in
      let same : spell x.tree ≡ x.block = is_one (spell x.tree) x.block (nodes_gone h rows ty v (λ ns. Contains (spell x.tree ∷ ns) x.block) e x.among) in
      let long = x.long in
      absurd (omega (arith, few, long, ap length same))

  -- ---- so building stops for no cause but the store and memory

  pub of_empty : (ty : TypeNo) (v : Value) (m n : Moment) (fault : BuildFault) → IsEmpty rows ty v → BuildAnswer h rows (plainly ty) v m (Err fault) n → IsOfEmpty fault
  of_empty ty v m n B.Store e answer = tt
  of_empty ty v m n B.Memory e answer = tt
  of_empty ty v m n B.Exhausted e answer = false≢true (sym (not_full ty v e) ∙ answer.0)
  of_empty ty v m n B.Size e answer = not_long ty v e answer.0
  of_empty ty v m n (B.Clash id kept new) e answer = not_in_none new (nodes_gone h rows ty v (λ ns. Contains ns new) e answer.0.among)
