-- Counting the events of one part behind those of another.
use Rattle.std.proofs.Common.{◌≡◌, ℕ, suc, ◌+◌, ◌<◌, ◌≤◌, List, [], ◌∷◌, ◌++◌, length, drop, get_or, Option, Some, None, Result, Ok, Err, option_map, refl, ap, sym, subst, ◌∙◌, arith, add-one}
use Rattle.std.specs.Option.{option_or}
use Rattle.std.proofs.Math.Seq.{drop-cons}
use Rattle.std.proofs.lemmas.List.{drop_all}
use Rattle.ild_parse_grammar.specs.declared.ast.MapForm.{MapForm}
use Rattle.ild_parse_grammar.specs.declared.ast.MapForm.TheVariants as F
use Rattle.ild_parse_grammar.specs.declared.ast.Mark.{Mark}
use Rattle.ild_parse_grammar.specs.declared.ast.Mark.TheVariants as M
use Rattle.ild_parse_grammar.specs.declared.ast.KindWord.TheVariants as K
use Rattle.ild_resolve.specs.Events.{Event, declares, begins, uses, advances, floats, part, types_in, mark_events, map_form_events, each_events}
use Rattle.ild_resolve.specs.Faults.{first_above}
use Rattle.ild_resolve.specs.inside.Counts.{Counts}
use Rattle.ild_resolve.proofs.Counts.{types_in-append}
use Rattle.ild_resolve.specs.declared.error.ResolveErr.{ResolveErr}
use Rattle.ild_resolve.specs.declared.error.ResolveErr.TheVariants as E

-- the first above the limits is in the first events, or in those behind them
pub first_above-append : (types : ℕ) (xs ys : List Event) → first_above types (xs ++ ys) ≡ option_or (first_above types xs) (first_above (types + types_in xs) ys)
first_above-append types [] ys = ap (λ n. first_above n ys) (omega arith)
first_above-append types (declares t ∷ es) ys = grind (arith, first_above-append (suc types) es ys)
first_above-append types (begins at ∷ es) ys = grind (arith, first_above-append (suc types) es ys)
first_above-append types (uses t ∷ es) ys = first_above-append types es ys
first_above-append types (advances t ∷ es) ys = first_above-append types es ys
first_above-append types (floats at ∷ es) ys = first_above-append types es ys
first_above-append types (part at before ∷ es) ys = grind (arith, first_above-append types es ys)

-- where the first events pass no limit, those behind them decide
pub counts_then : (old mid new : ℕ) (es fs : List Event) (r : Result (Unit {0}) ResolveErr) → first_above old es ≡ None → mid ≡ old + types_in es → Counts mid fs r new → Counts old (es ++ fs) r new
counts_then old mid new es fs (Ok done) free count counts =
    (first_above-append old es fs ∙ ap (λ o. option_or o (first_above (old + types_in es) fs)) free ∙ ap (λ n. first_above n fs) (sym count) ∙ counts.0, omega (arith, types_in-append es fs, count, counts.1))
counts_then old mid new es fs (Err e) free count counts =
    ap (option_map E.Many) (first_above-append old es fs ∙ ap (λ o. option_or o (first_above (old + types_in es) fs)) free ∙ ap (λ n. first_above n fs) (sym count)) ∙ counts

-- a fault of the first events is the fault of them all
pub fault_first : (old : ℕ) (es fs : List Event) (e : ResolveErr) → option_map E.Many (first_above old es) ≡ Some e → option_map E.Many (first_above old (es ++ fs)) ≡ Some e
fault_first old es fs e fault = ap (option_map E.Many) (first_above-append old es fs) ∙ by (first_above old es) fault
  where
    by : (o : Option ℕ) → option_map E.Many o ≡ Some e → option_map E.Many (option_or o (first_above (old + types_in es) fs)) ≡ Some e
    by None h = cc
    by (Some at) h = h

-- events that count for nothing may stand behind
pub counts_before : (old new : ℕ) (es fs : List Event) (r : Result (Unit {0}) ResolveErr) → first_above new fs ≡ None → types_in fs ≡ 0 → Counts old es r new → Counts old (es ++ fs) r new
counts_before old new es fs (Ok done) free none counts =
    (first_above-append old es fs ∙ ap (λ o. option_or o (first_above (old + types_in es) fs)) counts.0 ∙ ap (λ n. first_above n fs) (sym counts.1) ∙ free, omega (arith, types_in-append es fs, none, counts.1))
counts_before old new es fs (Err e) free none counts = fault_first old es fs e counts

pub mark_free : (types : ℕ) (mark : Option Mark) → first_above types (mark_events mark) ≡ None
mark_free types None = refl
mark_free types (Some (M.Text t)) = refl
mark_free types (Some (M.Kind K.Null)) = refl
mark_free types (Some (M.Kind K.Bool)) = refl
mark_free types (Some (M.Kind K.Int)) = refl
mark_free types (Some (M.Kind (K.Float at))) = refl
mark_free types (Some (M.Kind K.String)) = refl
mark_free types (Some (M.Kind K.Bytes)) = refl
mark_free types (Some (M.Kind K.List)) = refl
mark_free types (Some (M.Kind K.Map)) = refl
mark_free types (Some (M.Kind K.Link)) = refl

pub mark_none : (mark : Option Mark) → types_in (mark_events mark) ≡ 0
mark_none None = refl
mark_none (Some (M.Text t)) = refl
mark_none (Some (M.Kind K.Null)) = refl
mark_none (Some (M.Kind K.Bool)) = refl
mark_none (Some (M.Kind K.Int)) = refl
mark_none (Some (M.Kind (K.Float at))) = refl
mark_none (Some (M.Kind K.String)) = refl
mark_none (Some (M.Kind K.Bytes)) = refl
mark_none (Some (M.Kind K.List)) = refl
mark_none (Some (M.Kind K.Map)) = refl
mark_none (Some (M.Kind K.Link)) = refl

pub form_free : (types : ℕ) (form : Option MapForm) → first_above types (map_form_events form) ≡ None
form_free types None = refl
form_free types (Some F.Map) = refl
form_free types (Some F.ListPairs) = refl
form_free types (Some (F.StringPairs p)) = refl
form_free types (Some (F.Advanced t)) = refl

pub form_none : (form : Option MapForm) → types_in (map_form_events form) ≡ 0
form_none None = refl
form_none (Some F.Map) = refl
form_none (Some F.ListPairs) = refl
form_none (Some (F.StringPairs p)) = refl
form_none (Some (F.Advanced t)) = refl

-- What a loop keeps: behind so many types, the events that are left decide as the events from the first one on.
pub record Ahead (old : ℕ) (all : List Event) (types : ℕ) (rest : List Event) : Type 0 where
  pub limits : first_above old all ≡ first_above types rest
  pub count : old + types_in all ≡ types + types_in rest

pub ahead_all : (old : ℕ) (all : List Event) → Ahead old all old all
ahead_all old all = record { limits = refl; count = refl }

pub ahead_step : (old types mid : ℕ) (all es rest : List Event) → Ahead old all types (es ++ rest) → Counts types es (Ok tt) mid → Ahead old all mid rest
ahead_step old types mid all es rest a counts = record {
  limits = a.limits ∙ first_above-append types es rest ∙ ap (λ o. option_or o (first_above (types + types_in es) rest)) counts.0 ∙ ap (λ n. first_above n rest) (sym counts.1);
  count = omega (arith, a.count, types_in-append es rest, counts.1);
}

pub ahead_stop : (old types : ℕ) (all es rest : List Event) (e : ResolveErr) → Ahead old all types (es ++ rest) → option_map E.Many (first_above types es) ≡ Some e → option_map E.Many (first_above old all) ≡ Some e
ahead_stop old types all es rest e a fault = ap (option_map E.Many) a.limits ∙ fault_first types es rest e fault

pub ahead_end : (old types : ℕ) (all : List Event) → Ahead old all types [] → Counts old all (Ok tt) types
ahead_end old types all a = (a.limits, omega (arith, a.count))

-- the parts from one on are that part and those behind it
pub each_next : {A : Type 0} (events : ℕ → A → List Event) (i : ℕ) (xs : List A) (x : A) → i < length xs → x ≡ get_or xs i x
    → each_events events i (drop i xs) ≡ events i x ++ each_events events (i + 1) (drop (i + 1) xs)
each_next events i xs x within here =
    ap (each_events events i) (drop-cons xs i x within) ∙ ap (λ y. events i y ++ each_events events (suc i) (drop (suc i) xs)) (sym here)
    ∙ ap (λ n. events i x ++ each_events events n (drop n xs)) (sym (add-one i))

-- one part more
pub each_step : {A : Type 0} (events : ℕ → A → List Event) (old types mid i : ℕ) (xs : List A) (x : A) → i < length xs → x ≡ get_or xs i x
    → Ahead old (each_events events 0 xs) types (each_events events i (drop i xs)) → Counts types (events i x) (Ok tt) mid
    → Ahead old (each_events events 0 xs) mid (each_events events (i + 1) (drop (i + 1) xs))
each_step events old types mid i xs x within here a counts =
    ahead_step old types mid (each_events events 0 xs) (events i x) (each_events events (i + 1) (drop (i + 1) xs))
    (subst (Ahead old (each_events events 0 xs) types) (each_next events i xs x within here) a) counts

-- a fault of one part
pub each_stop : {A : Type 0} (events : ℕ → A → List Event) (old types i : ℕ) (xs : List A) (x : A) (e : ResolveErr) → i < length xs → x ≡ get_or xs i x
    → Ahead old (each_events events 0 xs) types (each_events events i (drop i xs)) → option_map E.Many (first_above types (events i x)) ≡ Some e
    → option_map E.Many (first_above old (each_events events 0 xs)) ≡ Some e
each_stop events old types i xs x e within here a fault =
    ahead_stop old types (each_events events 0 xs) (events i x) (each_events events (i + 1) (drop (i + 1) xs)) e
    (subst (Ahead old (each_events events 0 xs) types) (each_next events i xs x within here) a) fault

-- no part is left
pub each_end : {A : Type 0} (events : ℕ → A → List Event) (old types i : ℕ) (xs : List A) → length xs ≤ i
    → Ahead old (each_events events 0 xs) types (each_events events i (drop i xs)) → Counts old (each_events events 0 xs) (Ok tt) types
each_end events old types i xs past a =
    ahead_end old types (each_events events 0 xs) (subst (λ ys. Ahead old (each_events events 0 xs) types (each_events events i ys)) (drop_all i xs past) a)
