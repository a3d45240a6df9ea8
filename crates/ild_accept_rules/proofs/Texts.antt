-- Equal texts.
use Rattle.std.proofs.Common.{◌≡◌, ℕ, Bool, true, false, List, refl, sym, ap, ◌∙◌}
use Rattle.std.specs.Prelude.{bytes_eq, Decides}
use Rattle.std.specs.Bool.{one_answer}
use Rattle.std.proofs.lemmas.Slice.Eq.{bytes_eq-Decides}

pub bytes_eq_back : (xs ys : List ℕ) → bytes_eq xs ys ≡ bytes_eq ys xs
bytes_eq_back xs ys =
    let d : Decides (bytes_eq ys xs) (ys ≡ xs) = bytes_eq-Decides ys xs in
    one_answer (bytes_eq xs ys) (bytes_eq ys xs) (bytes_eq-Decides xs ys) (λ e. sym (d.0 e), λ e. d.1 (sym e))

pub bytes_same : (xs : List ℕ) → bytes_eq xs xs ≡ true
bytes_same xs = (bytes_eq-Decides xs xs).1 refl

-- two texts that are equal to one
pub texts_same : (xs ys zs : List ℕ) → bytes_eq xs zs ≡ true → bytes_eq ys zs ≡ true → bytes_eq xs ys ≡ true
texts_same xs ys zs first second = (bytes_eq-Decides xs ys).1 ((bytes_eq-Decides xs zs).0 first ∙ sym ((bytes_eq-Decides ys zs).0 second))

-- two texts of which one alone is equal to a third
pub texts_differ : (xs ys zs : List ℕ) → bytes_eq xs zs ≡ true → bytes_eq ys zs ≡ false → bytes_eq xs ys ≡ false
texts_differ xs ys zs first second = by (bytes_eq xs ys) refl
  where
    by : (b : Bool) → bytes_eq xs ys ≡ b → b ≡ false
    by false e = refl
    by true e = sym first ∙ ap (λ ts. bytes_eq ts zs) ((bytes_eq-Decides xs ys).0 e) ∙ second
