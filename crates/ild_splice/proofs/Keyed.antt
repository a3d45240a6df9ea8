-- Where a key has its place among entries, and the spelling of entries.
use Rattle.std.proofs.Common.{cond, ◌≡◌, ℕ, ◌+◌, Bool, true, false, List, [], ◌∷◌, length, Some, None, refl, ap, sym, arith}
use Rattle.std.specs.Prelude.{is_some}
use Rattle.std.specs.Ordering.{match_ordering}
use Rattle.std.specs.declared.cmp.Ordering.TheVariants.{Less, Equal, Greater}
use Rattle.std.proofs.lemmas.Option.{none-some}
use Rattle.ild_data.specs.Data.{Data}
use Rattle.ild_data.specs.Key.{key_cmp, same_text, put, value_at, without}
use Rattle.ild_data.proofs.Rising.{agrees, differs}

-- ---- a key beside the first of the entries

pub put_less : (k : List ℕ) (e : Data) (m : List ℕ × Data) (ms : List (List ℕ × Data)) → key_cmp k m.0 ≡ Less → put k e (m ∷ ms) ≡ (k, e) ∷ m ∷ ms
put_less k e m ms h = ap (λ o. match_ordering o ((k, e) ∷ m ∷ ms) ((k, e) ∷ ms) (m ∷ put k e ms)) h

pub put_equal : (k : List ℕ) (e : Data) (m : List ℕ × Data) (ms : List (List ℕ × Data)) → key_cmp k m.0 ≡ Equal → put k e (m ∷ ms) ≡ (k, e) ∷ ms
put_equal k e m ms h = ap (λ o. match_ordering o ((k, e) ∷ m ∷ ms) ((k, e) ∷ ms) (m ∷ put k e ms)) h

pub put_greater : (k : List ℕ) (e : Data) (m : List ℕ × Data) (ms : List (List ℕ × Data)) → key_cmp k m.0 ≡ Greater → put k e (m ∷ ms) ≡ m ∷ put k e ms
put_greater k e m ms h = ap (λ o. match_ordering o ((k, e) ∷ m ∷ ms) ((k, e) ∷ ms) (m ∷ put k e ms)) h

pub without_equal : (k : List ℕ) (m : List ℕ × Data) (ms : List (List ℕ × Data)) → key_cmp k m.0 ≡ Equal → without k (m ∷ ms) ≡ ms
without_equal k m ms h = ap (λ b. cond b ms (m ∷ without k ms)) (agrees k m.0 (same_text k m.0) refl h)

pub without_greater : (k : List ℕ) (m : List ℕ × Data) (ms : List (List ℕ × Data)) → key_cmp k m.0 ≡ Greater → without k (m ∷ ms) ≡ m ∷ without k ms
without_greater k m ms h = ap (λ b. cond b ms (m ∷ without k ms)) (differs k m.0 (same_text k m.0) Greater refl h (λ p. absurd cc))

-- ---- how many entries there are without one

stays_at : (k : List ℕ) (m : List ℕ × Data) (ms : List (List ℕ × Data)) (b : Bool) → cond b (Some m.1) (value_at k ms) ≡ None → (value_at k ms ≡ None → without k ms ≡ ms)
    → cond b ms (m ∷ without k ms) ≡ m ∷ ms
stays_at k m ms true none rest = absurd (none-some m.1 (sym none))
stays_at k m ms false none rest = ap (λ xs. m ∷ xs) (rest none)

-- with no entry there, none goes
pub stays : (k : List ℕ) (ms : List (List ℕ × Data)) → value_at k ms ≡ None → without k ms ≡ ms
stays k [] none = refl
stays k (m ∷ ms) none = stays_at k m ms (same_text k m.0) none (λ h. stays k ms h)

less_at : (k : List ℕ) (m : List ℕ × Data) (ms : List (List ℕ × Data)) (b : Bool) → is_some (cond b (Some m.1) (value_at k ms)) ≡ true
    → (is_some (value_at k ms) ≡ true → length (without k ms) + 1 ≡ length ms) → length (cond b ms (m ∷ without k ms)) + 1 ≡ length (m ∷ ms)
less_at k m ms true some rest = omega arith
less_at k m ms false some rest = let less = rest some in omega arith

-- with an entry there, one goes
pub one_less : (k : List ℕ) (ms : List (List ℕ × Data)) → is_some (value_at k ms) ≡ true → length (without k ms) + 1 ≡ length ms
one_less k [] some = absurd cc
one_less k (m ∷ ms) some = less_at k m ms (same_text k m.0) some (λ h. one_less k ms h)
