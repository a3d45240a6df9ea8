-- The steps to a part of a value, from those that are found by the form of its type.
use Rattle.std.proofs.Common.{◌≡◌, ◌<◌, ◌+◌, ◌^◌, ℕ, suc, List, [], ◌∷◌, Bool, true, false, cond, length, slice_get, Option, Some, None, refl, sym, ◌∙◌, ap, subst, arith}
use Rattle.std.specs.Prelude.{IsSomeAnd, bytes_eq, option_map, option_and_then}
use Rattle.std.specs.List.{position_from}
use Rattle.std.specs.Option.{option_map_or}
use Rattle.std.proofs.lemmas.Option.{same_Some, none-some}
use Rattle.ild_cbor.specs.declared.piece.Piece.{Piece}
use Rattle.ild_splice_changes.specs.TreeChange.{Located, nth, part_at, unchanged}
use Rattle.ild_data.proofs.Gets.{got_below}
use Rattle.ild_data.proofs.Options.{chain_some}
use Rattle.ild_data.specs.Data as T
use Rattle.ild_data.specs.Data.{Data, items_list, items_of, members_list}
use Rattle.ild_data.specs.Key.{same_text, value_at}
use Rattle.ild_data.proofs.Lists.{items_list-items_of}
use Rattle.ild_path_edits.proofs.HeldTyped.{held_is, inside_any, with_slot}
use Rattle.ild_path_changes.proofs.Datas.{each}
use Rattle.ild_path_changes.proofs.Each.{each-get, each_pair-at, joined}
use Rattle.ild_path_changes.proofs.Lifting.{field_data-each, place_same, present_field}
use Rattle.ild_path_changes.proofs.Represented.{inside_data}
use Rattle.ild_path_changes.specs.Lift.{lift_in, lift_map, lift_union, lift_within, map_lift, struct_lift, union_lift}
use Rattle.ild_path_changes.specs.Places.{field_data, field_named, field_place, left_out, place_of}
use Rattle.ild_value_meaning.proofs.Told.{AreToldApart}
use Rattle.ild_layer_piece.specs.Pieces.{StandsFor}
use Rattle.ild_schema.specs.Clear.{IsClear}
use Rattle.ild_schema.specs.Copies.{base}
use Rattle.ild_schema.specs.Parts.{part_named}
use Rattle.ild_schema.specs.Prelude.{anything}
use Rattle.ild_schema.specs.Slots.{form_of}
use Rattle.ild_schema.specs.Value as V
use Rattle.ild_schema.specs.Value.{Value}
use Rattle.ild_schema.specs.declared.def.Field.{Field}
use Rattle.ild_schema.specs.declared.def.MapForm.{MapForm}
use Rattle.ild_schema.specs.declared.def.Member.{Member}
use Rattle.ild_schema.specs.declared.def.StructDef.{StructDef}
use Rattle.ild_schema.specs.declared.def.TypeDef.{TypeDef}
use Rattle.ild_schema.specs.declared.def.TypeDef.TheVariants as D
use Rattle.ild_schema.specs.declared.def.UnionDef.{UnionDef}
use Rattle.ild_schema.specs.declared.number.Slot.{Slot}
use Rattle.ild_schema.specs.declared.number.TypeNo.{TypeNo}
use Rattle.ild_schema.specs.declared.row.Row.{Row}
use Rattle.ild_typed.specs.At.{InSlot, seen}
use Rattle.ild_typed.specs.Composed.{map_form}
use Rattle.ild_typed.specs.Hamt.{alone}
use Rattle.ild_typed.specs.Holder.{Holder, any_holder, elements, entries, fields, is_paired, member, nothing, of_any as inside, value_of}
use Rattle.ild_typed.specs.Layer as L
use Rattle.ild_typed.specs.Represented.{represented}
use Rattle.ild_typed.specs.Segment.{index_of, member_named, next_member, part, set_part}
use Rattle.ild_path_steps.proofs.Holding.{Held, held_by, of_any, of_elements, of_entries, of_fields, of_member, of_nothing}
use Rattle.ild_path_steps.proofs.Listing.{items_few}
use Rattle.ild_path_steps.specs.Steps.{FoundLead, IsField, LeadsEntry, LeadsField, LeadsMember, Lifts, LiftsAlways, LiftsEntry, LiftsField, LiftsMember, StepsTo, carried, is_left_out}
use Rattle.ild_path_steps.specs.declared.steps.PartSteps.{PartSteps}
use Rattle.ild_path_steps.specs.declared.steps.PartSteps.TheVariants as P

-- ---- numbers by names

place_from : (s : List ℕ) (i n : ℕ) (f : Field) (fs : List Field) (b : Bool) → same_text s f.name ≡ b → cond b (Some i) (position_from (λ g. bytes_eq s g.name) (i + 1) fs) ≡ Some n
    → (position_from (λ g. bytes_eq s g.name) (i + 1) fs ≡ Some n → n ≡ i + 1 + field_place s fs) → n ≡ i + field_place s (f ∷ fs)
place_from s i n f fs true e h rest = let same = same_Some i n h in rw e (omega (arith, same))
place_from s i n f fs false e h rest = let more = rest h in rw e (omega (arith, more))

pub field_number : (s : List ℕ) (i n : ℕ) (fs : List Field) → position_from (λ g. bytes_eq s g.name) i fs ≡ Some n → n ≡ i + field_place s fs
field_number s i n [] h = absurd (none-some n h)
field_number s i n (f ∷ fs) h = place_from s i n f fs (same_text s f.name) refl h (field_number s (i + 1) n fs)

no_number : (s : List ℕ) (i : ℕ) (f g : Field) (fs : List Field) (b : Bool) → cond b (Some i) (position_from (λ g. bytes_eq s g.name) (i + 1) fs) ≡ None → cond b (Some f) (field_named s fs) ≡ Some g
    → (position_from (λ g. bytes_eq s g.name) (i + 1) fs ≡ None → field_named s fs ≡ Some g → ⊥) → ⊥
no_number s i f g fs true h e rest = none-some i (sym h)
no_number s i f g fs false h e rest = rest h e

pub field_counted : (s : List ℕ) (i : ℕ) (fs : List Field) (g : Field) → position_from (λ g. bytes_eq s g.name) i fs ≡ None → field_named s fs ≡ Some g → ⊥
field_counted s i [] g h e = none-some g e
field_counted s i (f ∷ fs) g h e = no_number s i f g fs (same_text s f.name) h e (field_counted s (i + 1) fs g)

further : (s : List ℕ) (i n : ℕ) (m : Member) (ms : List Member) (o : Option (ℕ × Member)) → member_named s ms ≡ o → option_map next_member o ≡ Some (n, m)
    → ((k : ℕ) → member_named s ms ≡ Some (k, m) → position_from (λ m. bytes_eq s m.name) (i + 1) ms ≡ Some (i + 1 + k)) → position_from (λ m. bytes_eq s m.name) (i + 1) ms ≡ Some (i + n)
further s i n m ms None e h rest = absurd (none-some (n, m) h)
further s i n m ms (Some p) e h rest =
    let same = same_Some (next_member p) (n, m) h in
    let named : member_named s ms ≡ Some (p.0, m) = e ∙ (λ j. Some (p.0, (same j).1)) in
    let next : suc p.0 ≡ n = λ j. (same j).0 in
    rest p.0 named ∙ ap Some (omega (arith, next))

member_from : (s : List ℕ) (i n : ℕ) (m k : Member) (ms : List Member) (b : Bool) → cond b (Some (0, k)) (option_map next_member (member_named s ms)) ≡ Some (n, m)
    → ((j : ℕ) → member_named s ms ≡ Some (j, m) → position_from (λ m. bytes_eq s m.name) (i + 1) ms ≡ Some (i + 1 + j))
    → cond b (Some i) (position_from (λ m. bytes_eq s m.name) (i + 1) ms) ≡ Some (i + n)
member_from s i n m k ms true h rest =
    let zero_is : 0 ≡ n = λ j. (same_Some (0, k) (n, m) h j).0 in
    ap Some (omega (arith, zero_is))
member_from s i n m k ms false h rest = further s i n m ms (member_named s ms) refl h rest

pub member_number : (s : List ℕ) (i n : ℕ) (m : Member) (ms : List Member) → member_named s ms ≡ Some (n, m) → position_from (λ m. bytes_eq s m.name) i ms ≡ Some (i + n)
member_number s i n m [] h = absurd (none-some (n, m) h)
member_number s i n m (k ∷ ms) h = member_from s i n m k ms (same_text s k.name) h (λ j e. member_number s (i + 1) j m ms e)

-- ---- what was found

pub each-long : {X Y : Type 0} (f : X → Option Y) (xs : List X) (ds : List Y) → each f xs ≡ Some ds → length ds ≡ length xs
each-long f [] ds h = ap length (sym (same_Some [] ds h))
each-long f (x ∷ xs) ds h = let j = joined (f x) (each f xs) ds h in ap length (sym j.whole) ∙ ap suc (each-long f xs j.rest j.is_rest)

-- the same of any holder, whatever it becomes
abbrev Leads : List Row → Option TypeDef → Holder → List ℕ → InSlot → PartSteps → Type 0
Leads rows F h s q steps =
    (c : Value) (x : Data) (w : Option Data) (e : Located) → represented alone rows q.0 c ≡ Some x → is_left_out F s x ≡ false → lift_in F (represented alone rows) h s c w e ≡ carried steps w e

some_and : (r : Option PartSteps) (P : PartSteps → Type 0) (l : Option Data → Located → Located) → Lifts l r → ((steps : PartSteps) → r ≡ Some steps → P steps) → IsSomeAnd r P
some_and None P l h all = absurd h
some_and (Some steps) P l h all = all steps refl

mapped : (r : Option PartSteps) (P Q : PartSteps → Type 0) → ((steps : PartSteps) → P steps → Q steps) → IsSomeAnd r P → IsSomeAnd r Q
mapped None P Q f h = absurd h
mapped (Some steps) P Q f h = f steps h

abbrev map_form_in : MapForm → TypeDef → MapForm
map_form_in z (D.Map k k_at elem at form) = form
map_form_in z d = z

abbrev struct_in : StructDef → TypeDef → StructDef
struct_in z (D.Struct r) = r
struct_in z d = z

abbrev union_in : UnionDef → TypeDef → UnionDef
union_in z (D.Union u) = u
union_in z d = z

module _ (rows : List Row) (slot : Slot) (f : Value) (t d : Data) (q : InSlot) (s : List ℕ) (made : represented alone rows slot f ≡ Some t) (there : part (seen rows (slot, f)) s ≡ Some q)
    (partly : represented alone rows q.0 q.1 ≡ Some d) (out : is_left_out (form_of rows slot) s d ≡ false) (def : TypeDef) (known : form_of rows slot ≡ Some def) (r : Option PartSteps)
  where
    holder : Holder
    holder = seen rows (slot, f)

    at_holder : (h : Holder) → seen rows (slot, f) ≡ h → IsSomeAnd r (Leads rows (form_of rows slot) h s q) → IsSomeAnd r (StepsTo rows (slot, f) s q)
    at_holder h is all =
        mapped r (Leads rows (form_of rows slot) (seen rows (slot, f)) s q) (StepsTo rows (slot, f) s q)
        (λ steps each. record { each = λ c x e p o. each c x (represented alone rows slot (value_of (set_part (seen rows (slot, f)) s c))) e p o })
        (subst (λ k. IsSomeAnd r (Leads rows (form_of rows slot) k s q)) (sym is) all)

    there_in : (h : Holder) → seen rows (slot, f) ≡ h → part h s ≡ Some q
    there_in h is = sym (ap (λ k. part k s) is) ∙ there

    no_part : {A : Type 0} (v : Value) → seen rows (slot, f) ≡ nothing v → A
    no_part v is = absurd (none-some q (there_in (nothing v) is))

    found : (l : Option Data → Located → Located) (steps : PartSteps) → r ≡ Some steps → Lifts l r → (w : Option Data) (e : Located) → l w e ≡ carried steps w e
    found l steps is h = subst (Lifts l) is h

    pub leads_any : def ≡ D.Any → (part (any_holder t) s ≡ Some q → LiftsAlways (any_holder t) s r) → IsSomeAnd r (StepsTo rows (slot, f) s q)
    leads_any is given = by (held_by rows slot t def known f made) where
      by : Held rows def (seen rows (slot, f)) t → IsSomeAnd r (StepsTo rows (slot, f) s q)
      by (of_any e h) =
          let all = given (there_in (any_holder t) h) in
          at_holder (any_holder t) h (some_and r (Leads rows (form_of rows slot) (any_holder t) s q) _ (all (form_of rows slot) (represented alone rows) V.null)
          (λ steps r_is c x w e p o. found (λ w e. lift_in (form_of rows slot) (represented alone rows) (any_holder t) s c w e) steps r_is (all (form_of rows slot) (represented alone rows) c) w e))
      by (of_fields k os ds e h a b) = let wrong : D.Struct k ≡ D.Any = sym e ∙ is in absurd cc
      by (of_member u n v m y e h a b g) = let wrong : D.Union u ≡ D.Any = sym e ∙ is in absurd cc
      by (of_entries k k_at elem at form ps es e h a b) = let wrong : D.Map k k_at elem at form ≡ D.Any = sym e ∙ is in absurd cc
      by (of_elements elem at vs ds e h a b) = let wrong : D.List elem at ≡ D.Any = sym e ∙ is in absurd cc
      by (of_nothing v h) = no_part v h

    pub leads_list : (elem : Slot) (at : ℕ) (p : Piece) → def ≡ D.List elem at → StandsFor rows p t → ((i : ℕ) → index_of s ≡ Some i → i < 2 ^ 64 → r ≡ Some (P.Item i)) → IsSomeAnd r (StepsTo rows (slot, f) s q)
    leads_list elem at p is stands given = by (held_by rows slot t def known f made) where
      by : Held rows def (seen rows (slot, f)) t → IsSomeAnd r (StepsTo rows (slot, f) s q)
      by (of_elements el pl vs ds e h a b) =
          let y = with_slot el (option_and_then (λ i. slice_get vs i) (index_of s)) q (there_in (elements el vs) h) in
          let z = chain_some (λ i. slice_get vs i) (index_of s) y.0 y.1 in
          let few = items_few rows p (items_of ds) (subst (StandsFor rows p) b stands) in
          let same : length (items_list (items_of ds)) ≡ length vs = ap length (items_list-items_of ds) ∙ each-long (represented alone rows el) vs ds a in
          let less = got_below vs z.0 y.0 z.2 in
          let steps : r ≡ Some (P.Item z.0) = given z.0 z.1 (omega (arith, few, less, same)) in
          at_holder (elements el vs) h
          (subst (λ o. IsSomeAnd o (Leads rows (form_of rows slot) (elements el vs) s q)) (sym steps) (λ c x w e p o. ap (λ o. option_map_or (λ i. lift_within (nth i ∷ []) e) o unchanged) z.1))
      by (of_fields k os ds e h a b) = let wrong : D.Struct k ≡ D.List elem at = sym e ∙ is in absurd cc
      by (of_member u n v m y e h a b g) = let wrong : D.Union u ≡ D.List elem at = sym e ∙ is in absurd cc
      by (of_entries k k_at el pl form ps es e h a b) = let wrong : D.Map k k_at el pl form ≡ D.List elem at = sym e ∙ is in absurd cc
      by (of_any e h) = let wrong : D.Any ≡ D.List elem at = sym e ∙ is in absurd cc
      by (of_nothing v h) = no_part v h

    pub leads_map : (k : TypeNo) (k_at : ℕ) (elem : Slot) (at : ℕ) (form : MapForm) (p : Piece) → def ≡ D.Map k k_at elem at form → StandsFor rows p t → LiftsEntry (StandsFor rows p) form s r → IsSomeAnd r (StepsTo rows (slot, f) s q)
    leads_map k k_at elem at form p is stands given = by (held_by rows slot t def known f made) where
      by : Held rows def (seen rows (slot, f)) t → IsSomeAnd r (StepsTo rows (slot, f) s q)
      by (of_entries l l_at el pl g ps es e h a b) =
          let same : g ≡ form = ap (map_form_in form) (sym e ∙ is) in
          let y = with_slot el (value_at s ps) q (there_in (entries l.0 el (is_paired g) ps) h) in
          let data_is : represented alone rows el y.0 ≡ Some d = (λ i. represented alone rows ((y.2 i).0) ((y.2 i).1)) ∙ partly in
          let value : value_at s es ≡ Some d = each_pair-at (represented alone rows el) ps es s a ∙ ap (option_and_then (represented alone rows el)) y.1 ∙ data_is in
          let place : place_of s ps ≡ place_of s es = sym (place_same (represented alone rows el) s ps es a) in
          let lifts = given es t d stands (ap (λ z. map_form alone z (L.map es)) (sym same) ∙ b) value in
          at_holder (entries l.0 el (is_paired g) ps) h (some_and r (Leads rows (form_of rows slot) (entries l.0 el (is_paired g) ps) s q) (λ w e. map_lift form s (place_of s es) w e) lifts
          (λ steps r_is c x w e2 p o. ap (λ F. lift_map F s (place_of s ps) w e2) (known ∙ ap Some e) ∙ (λ i. map_lift (same i) s (place i) w e2) ∙ found (λ w e. map_lift form s (place_of s es) w e) steps r_is lifts w e2))
      by (of_fields j os ds e h a b) = let wrong : D.Struct j ≡ D.Map k k_at elem at form = sym e ∙ is in absurd cc
      by (of_member u n v m y e h a b g) = let wrong : D.Union u ≡ D.Map k k_at elem at form = sym e ∙ is in absurd cc
      by (of_elements el pl vs ds e h a b) = let wrong : D.List el pl ≡ D.Map k k_at elem at form = sym e ∙ is in absurd cc
      by (of_any e h) = let wrong : D.Any ≡ D.Map k k_at elem at form = sym e ∙ is in absurd cc
      by (of_nothing v h) = no_part v h

    module _ (clear : IsClear rows) (p : Piece) (stands : StandsFor rows p t) (z : StructDef) (is : def ≡ D.Struct z) where
      pub leads_field : (number : ℕ) → Some number ≡ part_named s def → LiftsField (StandsFor rows p) z number r → IsSomeAnd r (StepsTo rows (slot, f) s q)
      leads_field number numbered given = by (held_by rows slot t def known f made) where
        by : Held rows def (seen rows (slot, f)) t → IsSomeAnd r (StepsTo rows (slot, f) s q)
        by (of_fields k os ds e h a b) =
            let same : k ≡ z = ap (struct_in z) (sym e ∙ is) in
            let lifts : LiftsField (StandsFor rows p) k number r = subst (λ z. LiftsField (StandsFor rows p) z number r) (sym same) given in
            let form : form_of rows slot ≡ Some (D.Struct k) = known ∙ ap Some e in
            let y = present_field s k.fields os q (there_in (fields k.fields os) h) in
            let g = y.declared in
            let part_is : represented alone rows g.slot q.1 ≡ Some d = ap (λ z. represented alone rows z q.1) y.slot ∙ partly in
            let left_is : (x : Data) → is_left_out (form_of rows slot) s x ≡ left_out g x =
            λ x. ap (λ F. is_left_out F s x) form ∙ ap (λ o. option_map_or (λ g. left_out g x) o false) y.named in
            let at : number ≡ 0 + field_place s k.fields = field_number s 0 number k.fields (sym (numbered ∙ ap (part_named s) e)) in
            let field : IsField k.fields s number ds g d = record {
              named = y.named;
              place = omega (arith, at);
              held = field_data-each (represented alone rows) s k.fields os ds g q.1 a y.named y.held ∙ part_is;
              written = sym (left_is d) ∙ out;
            } in
            let all : (x : Data) → left_out g x ≡ false → Lifts (λ w e. struct_lift k.form s k.fields ds g (Some d) (Some x) w e) r =
            λ x. lifts ds t d x s g stands b (clear.types (base rows slot.ty.0) (D.Struct k) form) field in
            at_holder (fields k.fields os) h (some_and r (Leads rows (form_of rows slot) (fields k.fields os) s q) (λ w e. struct_lift k.form s k.fields ds g (Some d) (Some d) w e) (all d field.written)
            (λ steps r_is c x w e2 new o.
            let new_is : represented alone rows g.slot c ≡ Some x = ap (λ z. represented alone rows z c) y.slot ∙ new in
            ap (λ F. lift_in F (represented alone rows) (fields k.fields os) s c w e2) form
            ∙ ap (λ o. option_map_or (λ ds. option_map_or (λ g. struct_lift k.form s k.fields ds g (field_data s k.fields ds) (represented alone rows g.slot c) w e2) (field_named s k.fields) unchanged) o unchanged) a
            ∙ ap (λ o. option_map_or (λ g. struct_lift k.form s k.fields ds g (field_data s k.fields ds) (represented alone rows g.slot c) w e2) o unchanged) y.named
            ∙ (λ i. struct_lift k.form s k.fields ds g (field.held i) (new_is i) w e2)
            ∙ found (λ w e. struct_lift k.form s k.fields ds g (Some d) (Some x) w e) steps r_is (all x (sym (left_is x) ∙ o)) w e2))
        by (of_any e h) = let wrong : D.Any ≡ D.Struct z = sym e ∙ is in absurd cc
        by (of_member u n v m y e h a b g) = let wrong : D.Union u ≡ D.Struct z = sym e ∙ is in absurd cc
        by (of_entries k k_at elem at form ps es e h a b) = let wrong : D.Map k k_at elem at form ≡ D.Struct z = sym e ∙ is in absurd cc
        by (of_elements elem at vs ds e h a b) = let wrong : D.List elem at ≡ D.Struct z = sym e ∙ is in absurd cc
        by (of_nothing v h) = no_part v h

      pub has_field : None ≡ part_named s def → ⊥
      has_field numbered = by (held_by rows slot t def known f made) where
        by : Held rows def (seen rows (slot, f)) t → ⊥
        by (of_fields k os ds e h a b) =
            let y = present_field s k.fields os q (there_in (fields k.fields os) h) in
            field_counted s 0 k.fields y.declared (sym (numbered ∙ ap (part_named s) e)) y.named
        by (of_any e h) = let wrong : D.Any ≡ D.Struct z = sym e ∙ is in absurd cc
        by (of_member u n v m y e h a b g) = let wrong : D.Union u ≡ D.Struct z = sym e ∙ is in absurd cc
        by (of_entries k k_at elem at form ps es e h a b) = let wrong : D.Map k k_at elem at form ≡ D.Struct z = sym e ∙ is in absurd cc
        by (of_elements elem at vs ds e h a b) = let wrong : D.List elem at ≡ D.Struct z = sym e ∙ is in absurd cc
        by (of_nothing v h) = no_part v h

    module _ (apart : AreToldApart rows) (z : UnionDef) (is : def ≡ D.Union z) where
      numbered_as : (u : UnionDef) (n : ℕ) (v : Value) (m : Member) → def ≡ D.Union u → slice_get u.members n ≡ Some m → part (member u.members n v) s ≡ Some q → part_named s def ≡ Some n
      numbered_as u n v m e got here =
          let y = held_is s v (slice_get u.members n) m q got here in
          let named : member_named s u.members ≡ Some (n, m) = ap (λ j. member_named j u.members) y.0 ∙ apart.unions slot u n m (known ∙ ap Some e) got in
          ap (part_named s) e ∙ member_number s 0 n m u.members named ∙ ap Some (omega arith)

      pub leads_member : (number : ℕ) → Some number ≡ part_named s def → LiftsMember z number r → IsSomeAnd r (StepsTo rows (slot, f) s q)
      leads_member number numbered given = by (held_by rows slot t def known f made) where
        by : Held rows def (seen rows (slot, f)) t → IsSomeAnd r (StepsTo rows (slot, f) s q)
        by (of_member u n v m y e h a b g) =
            let same : u ≡ z = ap (union_in z) (sym e ∙ is) in
            let number_is : number ≡ n = same_Some number n (numbered ∙ numbered_as u n v m e a (there_in (member u.members n v) h)) in
            let lifts : LiftsMember u n r = (subst (λ z. LiftsMember z n r) (sym same) (subst (λ k. LiftsMember z k r) number_is given)) in
            let all : Lifts (λ w e. union_lift u.form m w e) r = lifts m y t a g in
            at_holder (member u.members n v) h (some_and r (Leads rows (form_of rows slot) (member u.members n v) s q) (λ w e. union_lift u.form m w e) all
            (λ steps r_is c x w e2 p o. ap (λ F. lift_union F n w e2) (known ∙ ap Some e) ∙ ap (λ o. option_map_or (λ m. union_lift u.form m w e2) o unchanged) a
            ∙ found (λ w e. union_lift u.form m w e) steps r_is all w e2))
        by (of_any e h) = let wrong : D.Any ≡ D.Union z = sym e ∙ is in absurd cc
        by (of_fields k os ds e h a b) = let wrong : D.Struct k ≡ D.Union z = sym e ∙ is in absurd cc
        by (of_entries k k_at elem at form ps es e h a b) = let wrong : D.Map k k_at elem at form ≡ D.Union z = sym e ∙ is in absurd cc
        by (of_elements elem at vs ds e h a b) = let wrong : D.List elem at ≡ D.Union z = sym e ∙ is in absurd cc
        by (of_nothing v h) = no_part v h

      pub has_member : None ≡ part_named s def → ⊥
      has_member numbered = by (held_by rows slot t def known f made) where
        by : Held rows def (seen rows (slot, f)) t → ⊥
        by (of_member u n v m y e h a b g) = none-some n (numbered ∙ numbered_as u n v m e a (there_in (member u.members n v) h))
        by (of_any e h) = let wrong : D.Any ≡ D.Union z = sym e ∙ is in absurd cc
        by (of_fields k os ds e h a b) = let wrong : D.Struct k ≡ D.Union z = sym e ∙ is in absurd cc
        by (of_entries k k_at elem at form ps es e h a b) = let wrong : D.Map k k_at elem at form ≡ D.Union z = sym e ∙ is in absurd cc
        by (of_elements elem at vs ds e h a b) = let wrong : D.List elem at ≡ D.Union z = sym e ∙ is in absurd cc
        by (of_nothing v h) = no_part v h

-- ---- where the part stands

module _ (rows : List Row) (any_there : form_of rows anything ≡ Some D.Any) (q : InSlot) (d : Data) (partly : represented alone rows q.0 q.1 ≡ Some d) (s : List ℕ) where
  inside_is : (o : Option Data) → option_map (λ y. (anything, inside y)) o ≡ Some q → q ≡ (anything, inside d)
  inside_is o e =
      let y = inside_any o q e in
      let same : y.0 ≡ d = same_Some y.0 d (sym (inside_data alone rows any_there y.0) ∙ (λ i. represented alone rows ((y.2 i).0) ((y.2 i).1)) ∙ partly) in
      sym y.2 ∙ (λ i. (anything, inside (same i)))

  pub any_is : (t : Data) → part (any_holder t) s ≡ Some q → q ≡ (anything, inside d)
  any_is (T.list ds) e = inside_is (option_and_then (λ i. slice_get (items_list ds) i) (index_of s)) e
  any_is (T.map ms) e = inside_is (value_at s (members_list ms)) e
  any_is T.null e = absurd (none-some q e)
  any_is (T.boolean b) e = absurd (none-some q e)
  any_is (T.integer n) e = absurd (none-some q e)
  any_is (T.text x) e = absurd (none-some q e)
  any_is (T.bytes x) e = absurd (none-some q e)
  any_is (T.link x) e = absurd (none-some q e)

module _ (rows : List Row) (slot : Slot) (f : Value) (t d : Data) (q : InSlot) (s : List ℕ) (made : represented alone rows slot f ≡ Some t) (there : part (seen rows (slot, f)) s ≡ Some q)
    (partly : represented alone rows q.0 q.1 ≡ Some d) (out : is_left_out (form_of rows slot) s d ≡ false) (def : TypeDef) (known : form_of rows slot ≡ Some def) (r : Option PartSteps)
  where
    in_holder : (h : Holder) → seen rows (slot, f) ≡ h → part h s ≡ Some q
    in_holder h is = sym (ap (λ k. part k s) is) ∙ there

    none_in : {A : Type 0} (v : Value) → seen rows (slot, f) ≡ nothing v → A
    none_in v is = absurd (none-some q (in_holder (nothing v) is))

    pub any_found : (any_there : form_of rows anything ≡ Some D.Any) → def ≡ D.Any → (part (any_holder t) s ≡ Some (anything, inside d) → FoundLead r t d) → FoundLead r t d
    any_found any_there is given = by (held_by rows slot t def known f made) where
      by : Held rows def (seen rows (slot, f)) t → FoundLead r t d
      by (of_any e h) = let g = in_holder (any_holder t) h in given (g ∙ ap (λ (q : InSlot). Some q) (any_is rows any_there q d partly s t g))
      by (of_fields k os ds e h a b) = let wrong : D.Struct k ≡ D.Any = sym e ∙ is in absurd cc
      by (of_member u n v m y e h a b g) = let wrong : D.Union u ≡ D.Any = sym e ∙ is in absurd cc
      by (of_entries k k_at elem at form ps es e h a b) = let wrong : D.Map k k_at elem at form ≡ D.Any = sym e ∙ is in absurd cc
      by (of_elements elem at vs ds e h a b) = let wrong : D.List elem at ≡ D.Any = sym e ∙ is in absurd cc
      by (of_nothing v h) = none_in v h

    pub list_found : (elem : Slot) (at : ℕ) (p : Piece) → def ≡ D.List elem at → StandsFor rows p t → ((i : ℕ) → index_of s ≡ Some i → i < 2 ^ 64 → r ≡ Some (P.Item i)) → FoundLead r t d
    list_found elem at p is stands given = by (held_by rows slot t def known f made) where
      by : Held rows def (seen rows (slot, f)) t → FoundLead r t d
      by (of_elements el pl vs ds e h a b) =
          let y = with_slot el (option_and_then (λ i. slice_get vs i) (index_of s)) q (in_holder (elements el vs) h) in
          let z = chain_some (λ i. slice_get vs i) (index_of s) y.0 y.1 in
          let few = items_few rows p (items_of ds) (subst (StandsFor rows p) b stands) in
          let same : length (items_list (items_of ds)) ≡ length vs = ap length (items_list-items_of ds) ∙ each-long (represented alone rows el) vs ds a in
          let less = got_below vs z.0 y.0 z.2 in
          let data_is : represented alone rows el y.0 ≡ Some d = (λ i. represented alone rows ((y.2 i).0) ((y.2 i).1)) ∙ partly in
          let got : slice_get (items_list (items_of ds)) z.0 ≡ Some d = ap (λ xs. slice_get xs z.0) (items_list-items_of ds) ∙ each-get (represented alone rows el) vs ds z.0 y.0 d a z.2 data_is in
          subst (λ o. FoundLead o t d) (sym (given z.0 z.1 (omega (arith, few, less, same)))) (ap (part_at (nth z.0 ∷ [])) b ∙ ap (option_and_then (λ e. Some e)) got)
      by (of_fields k os ds e h a b) = let wrong : D.Struct k ≡ D.List elem at = sym e ∙ is in absurd cc
      by (of_member u n v m y e h a b g) = let wrong : D.Union u ≡ D.List elem at = sym e ∙ is in absurd cc
      by (of_entries k k_at el pl form ps es e h a b) = let wrong : D.Map k k_at el pl form ≡ D.List elem at = sym e ∙ is in absurd cc
      by (of_any e h) = let wrong : D.Any ≡ D.List elem at = sym e ∙ is in absurd cc
      by (of_nothing v h) = none_in v h

    pub map_found : (k : TypeNo) (k_at : ℕ) (elem : Slot) (at : ℕ) (form : MapForm) (p : Piece) → def ≡ D.Map k k_at elem at form → StandsFor rows p t → LeadsEntry (StandsFor rows p) form s r → FoundLead r t d
    map_found k k_at elem at form p is stands given = by (held_by rows slot t def known f made) where
      by : Held rows def (seen rows (slot, f)) t → FoundLead r t d
      by (of_entries l l_at el pl g ps es e h a b) =
          let same : g ≡ form = ap (map_form_in form) (sym e ∙ is) in
          let y = with_slot el (value_at s ps) q (in_holder (entries l.0 el (is_paired g) ps) h) in
          let data_is : represented alone rows el y.0 ≡ Some d = (λ i. represented alone rows ((y.2 i).0) ((y.2 i).1)) ∙ partly in
          let value : value_at s es ≡ Some d = each_pair-at (represented alone rows el) ps es s a ∙ ap (option_and_then (represented alone rows el)) y.1 ∙ data_is in
          given es t d stands (ap (λ z. map_form alone z (L.map es)) (sym same) ∙ b) value
      by (of_fields j os ds e h a b) = let wrong : D.Struct j ≡ D.Map k k_at elem at form = sym e ∙ is in absurd cc
      by (of_member u n v m y e h a b g) = let wrong : D.Union u ≡ D.Map k k_at elem at form = sym e ∙ is in absurd cc
      by (of_elements el pl vs ds e h a b) = let wrong : D.List el pl ≡ D.Map k k_at elem at form = sym e ∙ is in absurd cc
      by (of_any e h) = let wrong : D.Any ≡ D.Map k k_at elem at form = sym e ∙ is in absurd cc
      by (of_nothing v h) = none_in v h

    pub field_found : (clear : IsClear rows) (p : Piece) → StandsFor rows p t → (z : StructDef) → def ≡ D.Struct z → (number : ℕ) → Some number ≡ part_named s def → LeadsField (StandsFor rows p) z number r → FoundLead r t d
    field_found clear p stands z is number numbered given = by (held_by rows slot t def known f made) where
      by : Held rows def (seen rows (slot, f)) t → FoundLead r t d
      by (of_fields k os ds e h a b) =
          let same : k ≡ z = ap (struct_in z) (sym e ∙ is) in
          let leads : LeadsField (StandsFor rows p) k number r = subst (λ z. LeadsField (StandsFor rows p) z number r) (sym same) given in
          let form : form_of rows slot ≡ Some (D.Struct k) = known ∙ ap Some e in
          let y = present_field s k.fields os q (in_holder (fields k.fields os) h) in
          let g = y.declared in
          let part_is : represented alone rows g.slot q.1 ≡ Some d = ap (λ z. represented alone rows z q.1) y.slot ∙ partly in
          let at : number ≡ 0 + field_place s k.fields = field_number s 0 number k.fields (sym (numbered ∙ ap (part_named s) e)) in
          let field : IsField k.fields s number ds g d = record {
            named = y.named;
            place = omega (arith, at);
            held = field_data-each (represented alone rows) s k.fields os ds g q.1 a y.named y.held ∙ part_is;
            written = sym (ap (λ F. is_left_out F s d) form ∙ ap (λ o. option_map_or (λ g. left_out g d) o false) y.named) ∙ out;
          } in
          leads ds t d s g stands b (clear.types (base rows slot.ty.0) (D.Struct k) form) field
      by (of_any e h) = let wrong : D.Any ≡ D.Struct z = sym e ∙ is in absurd cc
      by (of_member u n v m y e h a b g) = let wrong : D.Union u ≡ D.Struct z = sym e ∙ is in absurd cc
      by (of_entries k k_at elem at form ps es e h a b) = let wrong : D.Map k k_at elem at form ≡ D.Struct z = sym e ∙ is in absurd cc
      by (of_elements elem at vs ds e h a b) = let wrong : D.List elem at ≡ D.Struct z = sym e ∙ is in absurd cc
      by (of_nothing v h) = none_in v h

    pub member_found : (clear : IsClear rows) (apart : AreToldApart rows) (z : UnionDef) → def ≡ D.Union z → (number : ℕ) → Some number ≡ part_named s def → LeadsMember z number r → FoundLead r t d
    member_found clear apart z is number numbered given = by (held_by rows slot t def known f made) where
      by : Held rows def (seen rows (slot, f)) t → FoundLead r t d
      by (of_member u n v m y e h a b g) =
          let same : u ≡ z = ap (union_in z) (sym e ∙ is) in
          let form : form_of rows slot ≡ Some (D.Union u) = known ∙ ap Some e in
          let x = held_is s v (slice_get u.members n) m q a (in_holder (member u.members n v) h) in
          let named : member_named s u.members ≡ Some (n, m) = ap (λ j. member_named j u.members) x.0 ∙ apart.unions slot u n m form a in
          let number_is : number ≡ n = same_Some number n (numbered ∙ ap (part_named s) e ∙ member_number s 0 n m u.members named ∙ ap Some (omega arith)) in
          let leads : LeadsMember u n r = subst (λ z. LeadsMember z n r) (sym same) (subst (λ k. LeadsMember z k r) number_is given) in
          let data_is : y ≡ d = same_Some y d (sym b ∙ (λ i. represented alone rows ((x.1 i).0) ((x.1 i).1)) ∙ partly) in
          subst (FoundLead r t) data_is (leads m y t a g (clear.types (base rows slot.ty.0) (D.Union u) form).keys)
      by (of_any e h) = let wrong : D.Any ≡ D.Union z = sym e ∙ is in absurd cc
      by (of_fields k os ds e h a b) = let wrong : D.Struct k ≡ D.Union z = sym e ∙ is in absurd cc
      by (of_entries k k_at elem at form ps es e h a b) = let wrong : D.Map k k_at elem at form ≡ D.Union z = sym e ∙ is in absurd cc
      by (of_elements elem at vs ds e h a b) = let wrong : D.List elem at ≡ D.Union z = sym e ∙ is in absurd cc
      by (of_nothing v h) = none_in v h
