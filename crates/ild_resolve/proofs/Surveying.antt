-- The walk over declarations, one more at a time.
use Rattle.std.proofs.Common.{◌≡◌, ℕ, suc, ◌+◌, ◌<◌, cond, List, [], ◌∷◌, ◌++◌, length, take, drop, get_or, Option, Some, None, Ok, bytes_eq, option_map, ap, sym, subst, ◌∙◌, arith, add-one}
use Rattle.std.specs.List.{flat_map}
use Rattle.std.specs.Option.{option_or}
use Rattle.std.proofs.Math.Seq.{drop-cons, take-suc}
use Rattle.std.proofs.lemmas.Grind.{flat_map-append}
use Rattle.std.proofs.lemmas.List.{append-nil}
use Rattle.ild_parse_grammar.specs.declared.ast.Decl.{Decl}
use Rattle.ild_parse_grammar.specs.declared.ast.Decl.TheVariants as A
use Rattle.ild_parse_grammar.specs.declared.ast.TypeDecl.{TypeDecl}
use Rattle.ild_parse_grammar.specs.declared.ast.TypeName.{TypeName}
use Rattle.ild_resolve.specs.Events.{Event, declares, advances, body_events, decl_events, types_in}
use Rattle.ild_resolve.specs.Faults.{first_above, first_again, taken_names, declared_fault}
use Rattle.ild_resolve.specs.inside.Counts.{Counts}
use Rattle.ild_resolve.specs.inside.Survey.{again_at}
use Rattle.ild_resolve.specs.declared.error.ResolveErr.{ResolveErr}
use Rattle.ild_resolve.specs.declared.error.ResolveErr.TheVariants as E
use Rattle.ild_resolve.proofs.Counting.{Ahead, ahead_step, ahead_stop}
use Rattle.ild_resolve.proofs.Declaring.{Declared, declared_step, advanced_step, quiet_body}

abbrev events_in : List Decl → List Event
events_in decls = flat_map decl_events decls

-- Before one of the declarations: what the limits say of those that are left, and the names of those before it.
pub record Surveyed (decls : List Decl) (numbers : List ℕ → Option ℕ) (types : ℕ) (again : Option ℕ) (i : ℕ) : Type 0 where
  pub limits : Ahead 0 (events_in decls) types (events_in (drop i decls))
  pub names : Declared numbers types again (events_in (take i decls))

events_left : (decls : List Decl) (i : ℕ) (d : Decl) → i < length decls → d ≡ get_or decls i d → events_in (drop i decls) ≡ decl_events d ++ events_in (drop (i + 1) decls)
events_left decls i d within here =
    ap events_in (drop-cons decls i d within) ∙ ap (λ x. decl_events x ++ events_in (drop (suc i) decls)) (sym here)
    ∙ ap (λ n. decl_events d ++ events_in (drop n decls)) (sym (add-one i))

events_before : (decls : List Decl) (i : ℕ) (d : Decl) → i < length decls → d ≡ get_or decls i d → events_in (take (i + 1) decls) ≡ events_in (take i decls) ++ decl_events d
events_before decls i d within here =
    ap (λ n. events_in (take n decls)) (add-one i) ∙ ap events_in (take-suc decls i d within) ∙ ap (λ x. events_in (take i decls ++ x ∷ [])) (sym here)
    ∙ flat_map-append decl_events (take i decls) (d ∷ []) ∙ ap (λ es. events_in (take i decls) ++ es) (append-nil (decl_events d))

left_at : (decls : List Decl) (types i : ℕ) (d : Decl) → i < length decls → d ≡ get_or decls i d
    → Ahead 0 (events_in decls) types (events_in (drop i decls)) → Ahead 0 (events_in decls) types (decl_events d ++ events_in (drop (i + 1) decls))
left_at decls types i d within here a = subst (Ahead 0 (events_in decls) types) (events_left decls i d within here) a

-- behind the name of a declared type, its body is left
body_left : (decls : List Decl) (types middle i : ℕ) (item : Decl) (d : TypeDecl) → i < length decls → item ≡ get_or decls i item → item ≡ A.Type d
    → Ahead 0 (events_in decls) types (events_in (drop i decls)) → Counts types (declares d.name ∷ []) (Ok tt) middle
    → Ahead 0 (events_in decls) middle (body_events d.body ++ events_in (drop (i + 1) decls))
body_left decls types middle i item d within here is a begun =
    ahead_step 0 types middle (events_in decls) (declares d.name ∷ []) (body_events d.body ++ events_in (drop (i + 1) decls))
    (subst (λ x. Ahead 0 (events_in decls) types (decl_events x ++ events_in (drop (i + 1) decls))) is (left_at decls types i item within here a)) begun

pub survey_type : (decls : List Decl) (numbers next : List ℕ → Option ℕ) (types middle mid : ℕ) (again new : Option ℕ) (i : ℕ) (item : Decl) (d : TypeDecl)
    → i < length decls → item ≡ get_or decls i item → item ≡ A.Type d → Surveyed decls numbers types again i
    → Counts types (declares d.name ∷ []) (Ok tt) middle → Counts middle (body_events d.body) (Ok tt) mid
    → new ≡ option_or again (again_at numbers d.name)
    → (new ≡ None → (q : List ℕ) → next q ≡ cond (bytes_eq q d.name.name) (Some (middle + 7)) (numbers q))
    → Surveyed decls next mid new (i + 1)
survey_type decls numbers next types middle mid again new i item d within here is s begun counted first names = record {
  limits = ahead_step 0 middle mid (events_in decls) (body_events d.body) (events_in (drop (i + 1) decls)) (body_left decls types middle i item d within here is s.limits begun) counted;
  names =
      let number : middle + 7 ≡ types + 8 = omega (arith, begun.1) in
      let count : mid ≡ types + 1 + types_in (body_events d.body) = omega (arith, begun.1, counted.1) in
      let before : events_in (take (i + 1) decls) ≡ events_in (take i decls) ++ declares d.name ∷ body_events d.body =
      events_before decls i item within here ∙ ap (λ x. events_in (take i decls) ++ decl_events x) is in
      subst (Declared next mid new) (sym before)
      (declared_step numbers next types mid again new (events_in (take i decls)) (body_events d.body) d.name s.names (quiet_body d.body) count first
      (λ none q. names none q ∙ ap (λ n. cond (bytes_eq q d.name.name) (Some n) (numbers q)) number));
}

-- a name behind `advanced` declares nothing
pub survey_advanced : (decls : List Decl) (numbers : List ℕ → Option ℕ) (types : ℕ) (again : Option ℕ) (i : ℕ) (item : Decl) (t : TypeName)
    → i < length decls → item ≡ get_or decls i item → item ≡ A.Advanced t → Surveyed decls numbers types again i → Surveyed decls numbers types again (i + 1)
survey_advanced decls numbers types again i item t within here is s =
    let before : events_in (take (i + 1) decls) ≡ events_in (take i decls) ++ advances t ∷ [] =
    events_before decls i item within here ∙ ap (λ x. events_in (take i decls) ++ decl_events x) is in
    let left : Ahead 0 (events_in decls) types (advances t ∷ [] ++ events_in (drop (i + 1) decls)) =
    subst (λ x. Ahead 0 (events_in decls) types (decl_events x ++ events_in (drop (i + 1) decls))) is (left_at decls types i item within here s.limits) in
    record {
      limits = record { limits = left.limits; count = left.count };
      names = subst (Declared numbers types again) (sym before) (advanced_step numbers types again (events_in (take i decls)) t s.names);
    }

-- the same state, by other names
pub surveyed_same : (decls : List Decl) (numbers same : List ℕ → Option ℕ) (types count : ℕ) (again first : Option ℕ) (i : ℕ)
    → ((q : List ℕ) → same q ≡ numbers q) → count ≡ types → first ≡ again → Surveyed decls numbers types again i → Surveyed decls same count first i
surveyed_same decls numbers same types count again first i n t a s = record {
  limits = subst (λ k. Ahead 0 (events_in decls) k (events_in (drop i decls))) (sym t) s.limits;
  names = record { count = t ∙ s.names.count; first = a ∙ s.names.first; names = λ none q. n q ∙ s.names.names (sym a ∙ none) q };
}

-- the fault of a body is the first one declared
pub survey_stop : (decls : List Decl) (types middle i : ℕ) (item : Decl) (d : TypeDecl) (e : ResolveErr)
    → i < length decls → item ≡ get_or decls i item → item ≡ A.Type d → Ahead 0 (events_in decls) types (events_in (drop i decls))
    → Counts types (declares d.name ∷ []) (Ok tt) middle → option_map E.Many (first_above middle (body_events d.body)) ≡ Some e
    → declared_fault (events_in decls) ≡ Some e
survey_stop decls types middle i item d e within here is a begun fault =
    ap (λ o. option_or o (option_map E.Twice (first_again taken_names (events_in decls))))
    (ahead_stop 0 middle (events_in decls) (body_events d.body) (events_in (drop (i + 1) decls)) e (body_left decls types middle i item d within here is a begun) fault)
