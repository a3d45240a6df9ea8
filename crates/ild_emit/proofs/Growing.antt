-- One append after another.
use Rattle.std.proofs.Common.{◌≡◌, ℕ, List, [], ◌++◌, Result, Ok, Err, append_assoc, append-nil, sym, ap, ◌∙◌}
use Rattle.std.specs.Prelude.{OnErr}
use Rattle.ild_emit.specs.Grown.{IsGrown}

pub grown_same : (old new : List ℕ) → new ≡ old → IsGrown old new
grown_same old new e = record { more = []; is = e ∙ sym (append-nil old) }

pub grown_then : (old mid new : List ℕ) (xs : List ℕ) → mid ≡ old ++ xs → IsGrown mid new → IsGrown old new
grown_then old mid new xs e g = record { more = xs ++ g.more; is = g.is ∙ ap (λ ys. ys ++ g.more) e ∙ append_assoc old xs g.more }

pub on_err_always : {T E : Type 0} (r : Result T E) (P : Type 0) → P → OnErr r P
on_err_always (Ok x) P p = tt
on_err_always (Err e) P p = p

pub appended : (old mid new : List ℕ) (xs ys : List ℕ) → mid ≡ old ++ xs → new ≡ mid ++ ys → new ≡ old ++ (xs ++ ys)
appended old mid new xs ys e f = f ∙ ap (λ zs. zs ++ ys) e ∙ append_assoc old xs ys
