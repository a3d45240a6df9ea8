-- What a struct or a map becomes by an edit of its part, in the data of its parts.
use Rattle.std.proofs.Common.{◌≡◌, ℕ, List, [], ◌∷◌, ◌++◌, Bool, true, false, cond, Option, Some, None, refl, sym, ◌∙◌, ap, subst}
use Rattle.std.specs.Prelude.{option_and_then, option_map, Result}
use Rattle.std.specs.declared.alloc.AllocError.{AllocError}
use Rattle.std.proofs.lemmas.Option.{same_Some, none-some}
use Rattle.ild_schema.proofs.Parts.{optionals_list-optionals_of, pairs_list-pairs_of}
use Rattle.ild_data.proofs.Options.{chain_some, map_some}
use Rattle.ild_data.specs.Data as T
use Rattle.ild_data.specs.Data.{Data}
use Rattle.ild_data.specs.Key.{same_text}
use Rattle.ild_path_changes.proofs.Datas.{data_of, each_pair}
use Rattle.ild_path_changes.proofs.Each.{each_pair-last}
use Rattle.ild_path_changes.proofs.Last.{each_field-gone, each_pair-without}
use Rattle.ild_path_changes.proofs.LastLifting.{declared_field}
use Rattle.ild_path_changes.proofs.Lifting.{each_field-set}
use Rattle.ild_path_changes.proofs.Represented.{in_holders}
use Rattle.ild_path_changes.specs.Places.{each_field, field_named, field_place}
use Rattle.ild_path_edits.specs.Table.{field_kept, if_present}
use Rattle.ild_path_pairs.specs.Becomes.{LetsBe, with_part}
use Rattle.ild_path_pairs.specs.Pairs.{Tells, TellsStruct, entries_with}
use Rattle.ild_schema.specs.Clear.{AreClearFields, ClearStruct, IsGiven}
use Rattle.ild_schema.specs.Slots.{form_of}
use Rattle.ild_schema.specs.Value as V
use Rattle.ild_schema.specs.Value.{Value, optionals_of, pairs_of}
use Rattle.ild_schema.specs.declared.def.Field.{Field}
use Rattle.ild_schema.specs.declared.def.MapForm.{MapForm}
use Rattle.ild_schema.specs.declared.def.StructDef.{StructDef}
use Rattle.ild_schema.specs.declared.def.StructForm.{StructForm}
use Rattle.ild_schema.specs.declared.def.StructForm.TheVariants as S
use Rattle.ild_schema.specs.declared.def.TypeDef.TheVariants as D
use Rattle.ild_schema.specs.declared.number.Slot.{Slot}
use Rattle.ild_schema.specs.declared.number.TypeNo.{TypeNo}
use Rattle.ild_schema.specs.declared.row.Row.{Row}
use Rattle.ild_typed.specs.Composed.{map_form, struct_form}
use Rattle.ild_typed.specs.Fields.{entries_of, field_entries}
use Rattle.ild_typed.specs.Hamt.{alone}
use Rattle.ild_typed.specs.Holder.{entries, fields, map_holder, struct_holder, value_of}
use Rattle.ild_typed.specs.Layer as L
use Rattle.ild_typed.specs.Represented.{layered, represented}
use Rattle.ild_typed.specs.Segment.{set_field}
use Rattle.ild_typed.specs.Strings.{stringpairs}

-- the data of a new value, where one comes
abbrev pub HasData : (Value → Option Data) → Option Value → Option Data → Type 0
HasData f None None = Unit {0}
HasData f None (Some d) = ⊥
HasData f (Some w) None = ⊥
HasData f (Some w) (Some d) = f w ≡ Some d

-- ---- structs

-- a field that may go
record MayGo (s : List ℕ) (fs : List Field) : Type 0 where
  field : Field
  named : field_named s fs ≡ Some field
  optional : field.optional ≡ true

is_optional : (b : Bool) (o : Option Value) → if_present b o ≡ None → b ≡ true
is_optional b None e = absurd (none-some _ (sym e))
is_optional true (Some v) e = refl
is_optional false (Some v) e = absurd (none-some _ (sym e))

may_go_at : (s : List ℕ) (f : Field) (fs : List Field) (o : Option Value) (os : List (Option Value)) (b : Bool) → same_text s f.name ≡ b → cond b (if_present f.optional o) (field_kept s fs os) ≡ None → (field_kept s fs os ≡ None → MayGo s fs) → MayGo s (f ∷ fs)
may_go_at s f fs o os true q g more = record { field = f; named = ap (λ c. cond c (Some f) (field_named s fs)) q; optional = is_optional f.optional o g }
may_go_at s f fs o os false q g more =
    let m = more g in
    record { field = m.field; named = ap (λ c. cond c (Some f) (field_named s fs)) q ∙ m.named; optional = m.optional }

may_go : (s : List ℕ) (fs : List Field) (os : List (Option Value)) → field_kept s fs os ≡ None → MayGo s fs
may_go s [] os h = absurd (none-some _ (sym h))
may_go s (f ∷ fs) [] h = absurd (none-some _ (sym h))
may_go s (f ∷ fs) (o ∷ os) h = may_go_at s f fs o os (same_text s f.name) refl h (may_go s fs os)

-- what a field of a struct becomes
pub record NewField (rows : List Row) (o : Option Value) (d : Option Data) (fs : List Field) (os : List (Option Value)) (s : List ℕ) : Type 0 where
  pub field : Field
  pub named : field_named s fs ≡ Some field
  pub part_is : HasData (represented alone rows field.slot) o d
  pub gone : d ≡ None → field.optional ≡ true
  pub made : with_part (fields fs os) s o ≡ fields fs (set_field s o fs os)

never_none : {A : Type 0} (d : Data) → Some d ≡ None → A
never_none d e = absurd (none-some d (sym e))

pub new_field : (rows : List Row) (o : Option Value) (d : Option Data) (fs : List Field) (os : List (Option Value)) (s : List ℕ) → LetsBe rows (fields fs os) s o d → NewField rows o d fs os s
new_field rows None None fs os s h =
    let m = may_go s fs os h in
    record { field = m.field; named = m.named; part_is = tt; gone = λ e. m.optional; made = refl }
new_field rows None (Some x) fs os s h = absurd h
new_field rows (Some w) None fs os s h = absurd h
new_field rows (Some w) (Some x) fs os s h =
    let y = declared_field s fs os h.0 h.1 in
    record {
      field = y.declared;
      named = y.named;
      part_is = ap (λ z. represented alone rows z w) y.in_slot ∙ h.2;
      gone = λ e. never_none x e;
      made = refl;
    }

fields_with : (f : Slot → Value → Option Data) (fs : List Field) (os : List (Option Value)) (ds : List (Option Data)) (s : List ℕ) (g : Field) (o : Option Value) (d : Option Data) → each_field f fs os ≡ Some ds → field_named s fs ≡ Some g
    → HasData (f g.slot) o d → each_field f fs (set_field s o fs os) ≡ Some (set_field s d fs ds)
fields_with f fs os ds s g None None all named has = each_field-gone f s fs os ds all
fields_with f fs os ds s g None (Some d) all named has = absurd has
fields_with f fs os ds s g (Some w) None all named has = absurd has
fields_with f fs os ds s g (Some w) (Some d) all named has = each_field-set f s w d fs os ds g all named has

module _ (rows : List Row) (slot : Slot) where
  pub struct_becomes : (r : StructDef) (os : List (Option Value)) (ds : List (Option Data)) (s : List ℕ) (g : Field) (o : Option Value) (d : Option Data) → form_of rows slot ≡ Some (D.Struct r) → each_field (represented alone rows) r.fields os ≡ Some ds
      → field_named s r.fields ≡ Some g → HasData (represented alone rows g.slot) o d → represented alone rows slot (value_of (fields r.fields (set_field s o r.fields os))) ≡ struct_form r.form r.fields (set_field s d r.fields ds)
  struct_becomes r os ds s g o d known all named has =
      let xs = set_field s o r.fields os in
      in_holders alone rows slot (V.struct (optionals_of xs)) ∙ ap (λ F. data_of alone F (represented alone rows) slot (struct_holder F (optionals_of xs))) known
      ∙ ap (λ ys. option_and_then (λ es. layered alone (Some (D.Struct r)) (Some (L.struct es))) (each_field (represented alone rows) r.fields ys)) (optionals_list-optionals_of xs)
      ∙ ap (option_and_then (λ es. layered alone (Some (D.Struct r)) (Some (L.struct es)))) (fields_with (represented alone rows) r.fields os ds s g o d all named has)

-- ---- maps

-- what an entry of a map becomes
pub record NewEntry (rows : List Row) (o : Option Value) (d : Option Data) (k : ℕ) (elem : Slot) (ps : List (List ℕ × Value)) (s : List ℕ) : Type 0 where
  pub part_is : HasData (represented alone rows elem) o d
  pub made : with_part (entries k elem true ps) s o ≡ entries k elem true (entries_with s o ps)

pub new_entry : (rows : List Row) (o : Option Value) (d : Option Data) (k : ℕ) (elem : Slot) (ps : List (List ℕ × Value)) (s : List ℕ) → LetsBe rows (entries k elem true ps) s o d → NewEntry rows o d k elem ps s
new_entry rows None None k elem ps s h = record { part_is = tt; made = refl }
new_entry rows None (Some x) k elem ps s h = absurd h
new_entry rows (Some w) None k elem ps s h = absurd h
new_entry rows (Some w) (Some x) k elem ps s h = record { part_is = ap (λ z. represented alone rows z w) (same_Some elem h.0 h.1) ∙ h.2; made = refl }

pairs_with : (f : Value → Option Data) (ps : List (List ℕ × Value)) (es : List (List ℕ × Data)) (s : List ℕ) (o : Option Value) (d : Option Data) → each_pair f ps ≡ Some es → HasData f o d → each_pair f (entries_with s o ps) ≡ Some (entries_with s d es)
pairs_with f ps es s None None all has = each_pair-without f s ps es all
pairs_with f ps es s None (Some d) all has = absurd has
pairs_with f ps es s (Some w) None all has = absurd has
pairs_with f ps es s (Some w) (Some d) all has = each_pair-last f s w d ps es all has

module _ (rows : List Row) (slot : Slot) where
  pub map_becomes : (k : TypeNo) (k_at : ℕ) (elem : Slot) (at : ℕ) (form : MapForm) (ps : List (List ℕ × Value)) (es : List (List ℕ × Data)) (s : List ℕ) (o : Option Value) (d : Option Data) → form_of rows slot ≡ Some (D.Map k k_at elem at form)
      → each_pair (represented alone rows elem) ps ≡ Some es → HasData (represented alone rows elem) o d → represented alone rows slot (value_of (entries k.0 elem true (entries_with s o ps))) ≡ map_form alone form (L.map (entries_with s d es))
  map_becomes k k_at elem at form ps es s o d known all has =
      let xs = entries_with s o ps in
      let def = D.Map k k_at elem at form in
      in_holders alone rows slot (V.map (pairs_of xs)) ∙ ap (λ F. data_of alone F (represented alone rows) slot (map_holder F (pairs_of xs))) known
      ∙ ap (λ ys. option_and_then (λ zs. layered alone (Some def) (Some (L.map zs))) (each_pair (represented alone rows elem) ys)) (pairs_list-pairs_of xs)
      ∙ ap (option_and_then (λ zs. layered alone (Some def) (Some (L.map zs)))) (pairs_with (represented alone rows elem) ps es s o d all has)

-- ---- the pairs of a changed struct

mapped : {A B : Type 0} (f : A → B) (o : Option A) (x : A) → o ≡ Some x → option_map f o ≡ Some (f x)
mapped f o x e = ap (option_map f) e

-- the entries of the fields behind the first, and that it may be absent where it is
record Behind (f : Field) (fs : List Field) (o : Option Data) (ds : List (Option Data)) : Type 0 where
  entries : List (List ℕ × Data)
  made : field_entries fs ds ≡ Some entries
  may : o ≡ None → f.optional ≡ true

behind : (f : Field) (fs : List Field) (o : Option Data) (ds : List (Option Data)) (es : List (List ℕ × Data)) → field_entries (f ∷ fs) (o ∷ ds) ≡ Some es → Behind f fs o ds
behind f fs (Some x) ds es e = let y = map_some (λ zs. entries_of f x ++ zs) (field_entries fs ds) es e in record { entries = y.0; made = y.1; may = λ q. never_none x q }
behind f fs None ds es e = by f.optional refl e where
  by : (b : Bool) → f.optional ≡ b → cond b (field_entries fs ds) None ≡ Some es → Behind f fs None ds
  by true q k = record { entries = es; made = k; may = λ z. q }
  by false q k = absurd (none-some es k)

abbrev pub HasEntries : List Field → List (Option Data) → Type 0
HasEntries fs ds = (ys : List (List ℕ × Data)) × (field_entries fs ds ≡ Some ys)

with_first : (f : Field) (fs : List Field) (o : Option Data) (qs : List (Option Data)) → HasEntries fs qs → (o ≡ None → f.optional ≡ true) → HasEntries (f ∷ fs) (o ∷ qs)
with_first f fs (Some x) qs r may = (entries_of f x ++ r.0, mapped (λ zs. entries_of f x ++ zs) (field_entries fs qs) r.0 r.1)
with_first f fs None qs r may = (r.0, ap (λ b. cond b (field_entries fs qs) None) (may refl) ∙ r.1)

entries_set_at : (s : List ℕ) (f : Field) (fs : List Field) (o : Option Data) (ds : List (Option Data)) (g : Field) (d : Option Data) (b : Bool) → Behind f fs o ds → cond b (Some f) (field_named s fs) ≡ Some g → (d ≡ None → g.optional ≡ true)
    → (field_named s fs ≡ Some g → HasEntries fs (set_field s d fs ds)) → HasEntries (f ∷ fs) (cond b (d ∷ ds) (o ∷ set_field s d fs ds))
entries_set_at s f fs o ds g d true r named gone more = with_first f fs d ds (r.entries, r.made) (λ q. ap (λ z. z.optional) (same_Some f g named) ∙ gone q)
entries_set_at s f fs o ds g d false r named gone more = with_first f fs o (set_field s d fs ds) (more named) r.may

pub entries_set : (s : List ℕ) (fs : List Field) (ds : List (Option Data)) (es : List (List ℕ × Data)) (g : Field) (d : Option Data) → field_entries fs ds ≡ Some es → field_named s fs ≡ Some g → (d ≡ None → g.optional ≡ true)
    → HasEntries fs (set_field s d fs ds)
entries_set s [] ds es g d h named gone = absurd (none-some g named)
entries_set s (f ∷ fs) [] es g d h named gone = absurd (none-some es h)
entries_set s (f ∷ fs) (o ∷ ds) es g d h named gone =
    let r = behind f fs o ds es h in
    entries_set_at s f fs o ds g d (same_text s f.name) r named gone (λ n. entries_set s fs ds r.entries g d r.made n gone)

pub struct_form_told : (fs gs : List Field) (number : ℕ) (inner entry i e text : List ℕ) (new : Option (List ℕ)) (r : Result (Option (List ℕ)) AllocError) → TellsStruct i e text gs number new r → i ≡ inner → e ≡ entry → gs ≡ fs → (form : StructForm) → form ≡ S.StringPairs inner entry
    → (ds : List (Option Data)) (k : List ℕ) (g : Field) → struct_form form fs ds ≡ Some (T.text text) → ClearStruct form fs → field_named k fs ≡ Some g → number ≡ field_place k fs → (new ≡ None → g.optional ≡ true)
    → Tells (struct_form form fs (set_field k (option_map T.text new) fs ds)) r
struct_form_told fs gs number inner entry i e text new r all i_is e_is gs_is form is ds k g =
    subst (λ m. struct_form m fs ds ≡ Some (T.text text) → ClearStruct m fs → field_named k fs ≡ Some g → number ≡ field_place k fs → (new ≡ None → g.optional ≡ true) → Tells (struct_form m fs (set_field k d fs ds)) r) (sym is) so where
      d : Option Data
      d = option_map T.text new

      all_so : TellsStruct inner entry text fs number new r
      all_so = subst (λ x. TellsStruct x entry text fs number new r) i_is (subst (λ y. TellsStruct i y text fs number new r) e_is (subst (λ z. TellsStruct i e text z number new r) gs_is all))

      text_gone : (new : Option (List ℕ)) → option_map T.text new ≡ None → new ≡ None
      text_gone None e = refl
      text_gone (Some t) e = never_none (T.text t) e

      so : option_and_then (stringpairs inner entry) (field_entries fs ds) ≡ Some (T.text text) → AreClearFields fs × IsGiven inner → field_named k fs ≡ Some g → number ≡ field_place k fs → (new ≡ None → g.optional ≡ true)
          → Tells (option_and_then (stringpairs inner entry) (field_entries fs (set_field k d fs ds))) r
      so made clear named place gone =
          let y = chain_some (stringpairs inner entry) (field_entries fs ds) (T.text text) made in
          let n = entries_set k fs ds y.0 g d y.1 named (λ e. gone (text_gone new e)) in
          subst (λ o. Tells (option_and_then (stringpairs inner entry) o) r) (sym n.1) (all_so ds y.0 n.0 k g y.1 y.2 clear.0.apart named place n.1)
