-- Declaring one name more: which are taken, and for which numbers they stand.
use Rattle.std.proofs.Common.{◌≡◌, ℕ, suc, ◌+◌, Bool, true, false, cond, ◌||◌, List, [], ◌∷◌, ◌++◌, Option, Some, None, codes, is_some, bytes_eq, refl, ap, sym, ◌∙◌, arith, rules}
use Rattle.std.specs.Option.{option_or}
use Rattle.std.proofs.lemmas.Slice.Eq.{bytes_eq-Decides}
use Rattle.ild_parse_grammar.specs.Reference.{Reference, refer, Refers, named, link, list, map}
use Rattle.ild_parse_grammar.specs.declared.ast.Body.{Body}
use Rattle.ild_parse_grammar.specs.declared.ast.Body.TheVariants as B
use Rattle.ild_parse_grammar.specs.declared.ast.Field.{Field}
use Rattle.ild_parse_grammar.specs.declared.ast.Member.{Member}
use Rattle.ild_parse_grammar.specs.declared.ast.EnumMember.{EnumMember}
use Rattle.ild_parse_grammar.specs.declared.ast.Target.{Target}
use Rattle.ild_parse_grammar.specs.declared.ast.Target.TheVariants as T
use Rattle.ild_parse_grammar.specs.declared.ast.MapForm.{MapForm}
use Rattle.ild_parse_grammar.specs.declared.ast.MapForm.TheVariants as F
use Rattle.ild_parse_grammar.specs.declared.ast.Mark.{Mark}
use Rattle.ild_parse_grammar.specs.declared.ast.Mark.TheVariants as M
use Rattle.ild_parse_grammar.specs.declared.ast.KindWord.TheVariants as K
use Rattle.ild_parse_grammar.specs.declared.ast.TypeName.{TypeName}
use Rattle.ild_schema.specs.Names.{number_named}
use Rattle.ild_schema.specs.Prelude.{prelude}
use Rattle.ild_resolve.specs.Events.{Event, declares, begins, uses, advances, floats, part, types_in, reference_events, inline_events, field_events, target_events, member_events, enum_member_events, mark_events, map_form_events, each_events, body_events}
use Rattle.ild_resolve.specs.Faults.{is_among, first_again, taken_names}
use Rattle.ild_resolve.specs.Names.{number_declared, number_of}
use Rattle.ild_resolve.proofs.Counts.{types_in-append}
use Rattle.ild_resolve.specs.inside.Survey.{is_taken, again_at}
use Rattle.ild_schema.specs.declared.row.Row.{Row}
use Rattle.std.specs.Prelude.{map as map_list}

-- the names that are taken behind events
abbrev pub taken_after : List (List ℕ) → List Event → List (List ℕ)
taken_after taken [] = taken
taken_after taken (declares t ∷ es) = taken_after (t.name ∷ taken) es
taken_after taken (begins at ∷ es) = taken_after taken es
taken_after taken (uses t ∷ es) = taken_after taken es
taken_after taken (advances t ∷ es) = taken_after taken es
taken_after taken (floats at ∷ es) = taken_after taken es
taken_after taken (part at before ∷ es) = taken_after taken es

pub first_again-append : (taken : List (List ℕ)) (xs ys : List Event) → first_again taken (xs ++ ys) ≡ option_or (first_again taken xs) (first_again (taken_after taken xs) ys)
first_again-append taken [] ys = refl
first_again-append taken (declares t ∷ es) ys = grind (arith, first_again-append (t.name ∷ taken) es ys)
first_again-append taken (begins at ∷ es) ys = first_again-append taken es ys
first_again-append taken (uses t ∷ es) ys = first_again-append taken es ys
first_again-append taken (advances t ∷ es) ys = first_again-append taken es ys
first_again-append taken (floats at ∷ es) ys = first_again-append taken es ys
first_again-append taken (part at before ∷ es) ys = first_again-append taken es ys

pub number_declared-append : (q : List ℕ) (n : ℕ) (xs ys : List Event) → number_declared q n (xs ++ ys) ≡ option_or (number_declared q n xs) (number_declared q (n + types_in xs) ys)
number_declared-append q n [] ys = ap (λ k. number_declared q k ys) (omega arith)
number_declared-append q n (declares t ∷ es) ys = grind (arith, number_declared-append q (suc n) es ys)
number_declared-append q n (begins at ∷ es) ys = grind (arith, number_declared-append q (suc n) es ys)
number_declared-append q n (uses t ∷ es) ys = number_declared-append q n es ys
number_declared-append q n (advances t ∷ es) ys = number_declared-append q n es ys
number_declared-append q n (floats at ∷ es) ys = number_declared-append q n es ys
number_declared-append q n (part at before ∷ es) ys = number_declared-append q n es ys

-- a name is taken behind events where they declare it, or it was before
pub is_among-after : (q : List ℕ) (taken : List (List ℕ)) (n : ℕ) (es : List Event) → is_among q (taken_after taken es) ≡ (is_some (number_declared q n es) || is_among q taken)
is_among-after q taken n [] = refl
is_among-after q taken n (declares t ∷ es) = grind (arith, is_among-after q (t.name ∷ taken) (suc n) es)
is_among-after q taken n (begins at ∷ es) = is_among-after q taken (suc n) es
is_among-after q taken n (uses t ∷ es) = is_among-after q taken n es
is_among-after q taken n (advances t ∷ es) = is_among-after q taken n es
is_among-after q taken n (floats at ∷ es) = is_among-after q taken n es
is_among-after q taken n (part at before ∷ es) = is_among-after q taken n es

-- ---- events that declare nothing

pub record Quiet (es : List Event) : Type 0 where
  pub again : (taken : List (List ℕ)) → first_again taken es ≡ None
  pub number : (q : List ℕ) (n : ℕ) → number_declared q n es ≡ None

pub quiet_none : Quiet []
quiet_none = record { again = λ taken. refl; number = λ q n. refl }

pub quiet_append : (xs ys : List Event) → Quiet xs → Quiet ys → Quiet (xs ++ ys)
quiet_append xs ys a b = record {
  again = λ taken. first_again-append taken xs ys ∙ ap (λ o. option_or o (first_again (taken_after taken xs) ys)) (a.again taken) ∙ b.again (taken_after taken xs);
  number = λ q n. number_declared-append q n xs ys ∙ ap (λ o. option_or o (number_declared q (n + types_in xs) ys)) (a.number q n) ∙ b.number q (n + types_in xs);
}

quiet_uses : (t : TypeName) (es : List Event) → Quiet es → Quiet (uses t ∷ es)
quiet_uses t es a = record { again = λ taken. a.again taken; number = λ q n. a.number q n }

quiet_begins : (at : ℕ) (es : List Event) → Quiet es → Quiet (begins at ∷ es)
quiet_begins at es a = record { again = λ taken. a.again taken; number = λ q n. a.number q (suc n) }

quiet_part : (at before : ℕ) (es : List Event) → Quiet es → Quiet (part at before ∷ es)
quiet_part at before es a = record { again = λ taken. a.again taken; number = λ q n. a.number q n }

quiet_floats : (at : ℕ) → Quiet (floats at ∷ [])
quiet_floats at = record { again = λ taken. refl; number = λ q n. refl }

quiet_advances : (t : TypeName) → Quiet (advances t ∷ [])
quiet_advances t = record { again = λ taken. refl; number = λ q n. refl }

mutual
  quiet_reference : (r : Reference) → Quiet (reference_events r)
  quiet_reference (refer at nullable type_at r) = quiet_inline type_at r

  quiet_inline : (at : ℕ) (r : Refers) → Quiet (inline_events at r)
  quiet_inline at (named t) = quiet_uses t [] quiet_none
  quiet_inline at (link t) = quiet_begins at (uses t ∷ []) (quiet_uses t [] quiet_none)
  quiet_inline at (list r) = quiet_begins at (reference_events r) (quiet_reference r)
  quiet_inline at (map k r) = quiet_begins at (uses k ∷ reference_events r) (quiet_uses k (reference_events r) (quiet_reference r))

quiet_each : {A : Type 0} (events : ℕ → A → List Event) → ((k : ℕ) (a : A) → Quiet (events k a)) → (before : ℕ) (xs : List A) → Quiet (each_events events before xs)
quiet_each events quiet before [] = quiet_none
quiet_each events quiet before (a ∷ more) = quiet_append (events before a) (each_events events (suc before) more) (quiet before a) (quiet_each events quiet (suc before) more)

quiet_field : (before : ℕ) (f : Field) → Quiet (field_events before f)
quiet_field before f = quiet_part f.name.at before (reference_events f.value) (quiet_reference f.value)

quiet_target : (at : ℕ) (t : Target) → Quiet (target_events at t)
quiet_target at (T.Type t) = quiet_uses t [] quiet_none
quiet_target at (T.Link t) = quiet_begins at (uses t ∷ []) (quiet_uses t [] quiet_none)

quiet_mark : (mark : Option Mark) → Quiet (mark_events mark)
quiet_mark None = quiet_none
quiet_mark (Some (M.Text t)) = quiet_none
quiet_mark (Some (M.Kind K.Null)) = quiet_none
quiet_mark (Some (M.Kind K.Bool)) = quiet_none
quiet_mark (Some (M.Kind K.Int)) = quiet_none
quiet_mark (Some (M.Kind (K.Float at))) = quiet_floats at
quiet_mark (Some (M.Kind K.String)) = quiet_none
quiet_mark (Some (M.Kind K.Bytes)) = quiet_none
quiet_mark (Some (M.Kind K.List)) = quiet_none
quiet_mark (Some (M.Kind K.Map)) = quiet_none
quiet_mark (Some (M.Kind K.Link)) = quiet_none

quiet_member : (before : ℕ) (m : Member) → Quiet (member_events before m)
quiet_member before m =
    quiet_part m.at before (target_events m.at m.target ++ mark_events m.mark)
    (quiet_append (target_events m.at m.target) (mark_events m.mark) (quiet_target m.at m.target) (quiet_mark m.mark))

quiet_enum_member : (before : ℕ) (m : EnumMember) → Quiet (enum_member_events before m)
quiet_enum_member before m = quiet_part m.name.at before [] quiet_none

quiet_form : (form : Option MapForm) → Quiet (map_form_events form)
quiet_form None = quiet_none
quiet_form (Some F.Map) = quiet_none
quiet_form (Some F.ListPairs) = quiet_none
quiet_form (Some (F.StringPairs p)) = quiet_none
quiet_form (Some (F.Advanced t)) = quiet_advances t

pub quiet_body : (body : Body) → Quiet (body_events body)
quiet_body (B.Copy t) = quiet_uses t [] quiet_none
quiet_body B.Bool = quiet_none
quiet_body B.String = quiet_none
quiet_body B.Bytes = quiet_none
quiet_body B.Int = quiet_none
quiet_body (B.Float at) = quiet_floats at
quiet_body B.Any = quiet_none
quiet_body (B.Link t) = quiet_uses t [] quiet_none
quiet_body (B.List r) = quiet_reference r
quiet_body (B.Map m) =
    quiet_uses m.key (reference_events m.value ++ map_form_events m.form)
    (quiet_append (reference_events m.value) (map_form_events m.form) (quiet_reference m.value) (quiet_form m.form))
quiet_body (B.Struct s) = quiet_each field_events quiet_field 0 s.fields
quiet_body (B.Union u) = quiet_each member_events quiet_member 0 u.members
quiet_body (B.Enum e) = quiet_each enum_member_events quiet_enum_member 0 e.members
quiet_body (B.Unit u) = quiet_none

-- ---- which names are taken

abbrev names_of : List Row → List (List ℕ)
names_of rows = map_list (λ r. r.name) rows

some_or : (b : Bool) (n : ℕ) (o : Option ℕ) (c : Bool) → is_some o ≡ c → is_some (cond b (Some n) o) ≡ (b || c)
some_or true n o c e = refl
some_or false n o c e = e

-- a name stands for a type of the prelude where it is one of the prelude's
given_among : (q : List ℕ) → is_some (number_named q prelude) ≡ is_among q (names_of prelude)
given_among q =
    some_or (bytes_eq q (codes "Any")) 0 _ _ (
    some_or (bytes_eq q (codes "Bool")) 1 _ _ (
    some_or (bytes_eq q (codes "Bytes")) 2 _ _ (
    some_or (bytes_eq q (codes "Int")) 3 _ _ (
    some_or (bytes_eq q (codes "Link")) 4 _ _ (
    some_or (bytes_eq q (codes "List")) 5 _ _ (
    some_or (bytes_eq q (codes "Map")) 6 _ _ (
    some_or (bytes_eq q (codes "String")) 7 _ _ refl)))))))

either : (float : Bool) (given declared : Option ℕ) → (is_some declared || (float || is_some given)) ≡ (float || is_some (option_or given declared))
either true None None = refl
either true None (Some n) = refl
either true (Some m) None = refl
either true (Some m) (Some n) = refl
either false None None = refl
either false None (Some n) = refl
either false (Some m) None = refl
either false (Some m) (Some n) = refl

-- a name is among those taken behind events where no schema may declare it, or it stands for a number
taken_behind : (q : List ℕ) (done : List Event) → is_among q (taken_after taken_names done) ≡ is_taken (λ name. number_of name done) q
taken_behind q done =
    let float : Bool = bytes_eq q (codes "Float") in
    is_among-after q taken_names 8 done ∙ ap (λ g. is_some (number_declared q 8 done) || (float || g)) (sym (given_among q))
    ∙ either float (number_named q prelude) (number_declared q 8 done)

-- ---- a declared type more

-- What the walk keeps behind events: for which numbers names stand, how many types began, and the first name that is taken.
pub record Declared (numbers : List ℕ → Option ℕ) (types : ℕ) (again : Option ℕ) (done : List Event) : Type 0 where
  pub count : types ≡ types_in done
  pub first : again ≡ first_again taken_names done
  pub names : again ≡ None → (q : List ℕ) → numbers q ≡ number_of q done

-- the first name that is taken, behind a declared type and what its body holds
first_behind : (done body : List Event) (t : TypeName) → Quiet body
    → first_again taken_names (done ++ declares t ∷ body) ≡ option_or (first_again taken_names done) (again_at (λ q. number_of q done) t)
first_behind done body t quiet =
    first_again-append taken_names done (declares t ∷ body)
    ∙ ap (λ o. option_or (first_again taken_names done) (cond (is_among t.name (taken_after taken_names done)) (Some t.at) o)) (quiet.again (t.name ∷ taken_after taken_names done))
    ∙ ap (λ b. option_or (first_again taken_names done) (cond b (Some t.at) None)) (taken_behind t.name done)

or_regroup : (a b c : Option ℕ) → option_or a (option_or b c) ≡ option_or (option_or a b) c
or_regroup None b c = refl
or_regroup (Some n) b c = refl

-- for which number a name stands there
number_behind : (done body : List Event) (t : TypeName) → Quiet body → (q : List ℕ)
    → number_of q (done ++ declares t ∷ body) ≡ option_or (number_of q done) (cond (bytes_eq q t.name) (Some (8 + types_in done)) None)
number_behind done body t quiet q =
    let given : Option ℕ = number_named q prelude in
    let before : Option ℕ = number_declared q 8 done in
    let here = λ (o : Option ℕ). cond (bytes_eq q t.name) (Some (8 + types_in done)) o in
    ap (option_or given) (number_declared-append q 8 done (declares t ∷ body))
    ∙ ap (λ o. option_or given (option_or before (here o))) (quiet.number q (suc (8 + types_in done)))
    ∙ or_regroup given before (here None)

or_none : (o : Option ℕ) → o ≡ option_or o None
or_none None = refl
or_none (Some n) = refl

free_none : (float : Bool) (o : Option ℕ) (at : ℕ) → cond (float || is_some o) (Some at) None ≡ None → o ≡ None
free_none float None at h = refl
free_none true (Some n) at h = cc
free_none false (Some n) at h = cc

-- a name that is not taken stands for no number
new_number : (numbers : List ℕ → Option ℕ) (t : TypeName) (n : ℕ) → again_at numbers t ≡ None → (q : List ℕ)
    → cond (bytes_eq q t.name) (Some n) (numbers q) ≡ option_or (numbers q) (cond (bytes_eq q t.name) (Some n) None)
new_number numbers t n free q = by (bytes_eq q t.name) refl
  where
    by : (b : Bool) → bytes_eq q t.name ≡ b → cond b (Some n) (numbers q) ≡ option_or (numbers q) (cond b (Some n) None)
    by true e =
        let same : q ≡ t.name = search (rules, bytes_eq-Decides q t.name, e) in
        let none : numbers q ≡ None = ap numbers same ∙ free_none (bytes_eq t.name (codes "Float")) (numbers t.name) t.at free in
        ap (λ o. option_or o (Some n)) (sym none)
    by false e = or_none (numbers q)

both_none : (a b : Option ℕ) → option_or a b ≡ None → (a ≡ None) × (b ≡ None)
both_none None b h = (refl, h)
both_none (Some n) b h = (h, cc)

-- where the numbers are those of the text, so is the first name that is taken
same_first : (numbers : List ℕ → Option ℕ) (again : Option ℕ) (done : List Event) (t : TypeName) → (again ≡ None → numbers t.name ≡ number_of t.name done)
    → option_or again (again_at numbers t) ≡ option_or again (again_at (λ q. number_of q done) t)
same_first numbers None done t same = ap (λ o. cond (bytes_eq t.name (codes "Float") || is_some o) (Some t.at) None) (same refl)
same_first numbers (Some n) done t same = refl

pub declared_step : (numbers next : List ℕ → Option ℕ) (types mid : ℕ) (again new : Option ℕ) (done body : List Event) (t : TypeName)
    → Declared numbers types again done → Quiet body → mid ≡ types + 1 + types_in body
    → new ≡ option_or again (again_at numbers t)
    → (new ≡ None → (q : List ℕ) → next q ≡ cond (bytes_eq q t.name) (Some (types + 8)) (numbers q))
    → Declared next mid new (done ++ declares t ∷ body)
declared_step numbers next types mid again new done body t d quiet count first names = record {
  count = omega (arith, count, types_in-append done (declares t ∷ body), d.count);
  first = first ∙ same_first numbers again done t (λ none. d.names none t.name) ∙ ap (λ o. option_or o (again_at (λ q. number_of q done) t)) d.first ∙ sym (first_behind done body t quiet);
  names = λ none q.
      let free = both_none again (again_at numbers t) (sym first ∙ none) in
      let place : types + 8 ≡ 8 + types_in done = omega (arith, d.count) in
      names none q ∙ new_number numbers t (types + 8) free.1 q ∙ ap (λ o. option_or o (cond (bytes_eq q t.name) (Some (types + 8)) None)) (d.names free.0 q)
      ∙ ap (λ n. option_or (number_of q done) (cond (bytes_eq q t.name) (Some n) None)) place ∙ sym (number_behind done body t quiet q);
}

-- a name behind `advanced` declares nothing
pub advanced_step : (numbers : List ℕ → Option ℕ) (types : ℕ) (again : Option ℕ) (done : List Event) (t : TypeName)
    → Declared numbers types again done → Declared numbers types again (done ++ advances t ∷ [])
advanced_step numbers types again done t d = record {
  count = omega (arith, types_in-append done (advances t ∷ []), d.count);
  first = d.first ∙ or_none (first_again taken_names done) ∙ sym (first_again-append taken_names done (advances t ∷ []));
  names = λ none q.
      let given : Option ℕ = number_named q prelude in
      d.names none q ∙ ap (option_or given) (or_none (number_declared q 8 done) ∙ sym (number_declared-append q 8 done (advances t ∷ [])));
}
