-- Stripping a prefix from a text, and looking for the first member that has one.
use Rattle.std.proofs.Common.{◌≡◌, ◌⊎◌, inl, inr, ℕ, ◌+◌, ◌<◌, ◌≤◌, Bool, true, false, List, [], ◌∷◌, ◌++◌, Option, Some, None, length, take, drop, get_or, slice_get, refl, ap, sym, ◌∙◌, subst, arith}
use Rattle.std.specs.Prelude.{nat_eq}
use Rattle.std.proofs.lemmas.Bool.Decides.{nat_tests}
use Rattle.std.specs.Option.{option_and_then, option_map}
use Rattle.std.proofs.lemmas.Option.{none-some, same_Some, slice_get-get_or, slice_get_within}
use Rattle.std.proofs.lemmas.List.{length-drop, take-append-drop, take-append-le, take_at, append_cancel_left}
use Rattle.ild_schema.specs.declared.def.Member.{Member}
use Rattle.ild_schema.specs.declared.def.Mark.{Mark}
use Rattle.ild_schema.specs.declared.def.Mark.TheVariants as K
use Rattle.ild_data.specs.Hex.{hex_byte, bytes_of_hex}
use Rattle.ild_text.specs.Prefix.{bytes_mark, IsBehind, IsPrefixed, AreApart, OnePrefixed, PassesDigits, Strips}

-- no member before this place has a prefix with which the text begins
abbrev pub NoneBefore : (Mark → Option (List ℕ)) → List Member → List ℕ → ℕ → Type 0
NoneBefore f ms t n = (m : ℕ) (r : List ℕ) → m < n → IsPrefixed f ms t m r → ⊥

not_at : (f : Mark → Option (List ℕ)) (ms : List Member) (t : List ℕ) (n k : ℕ) (m : Member) → slice_get ms n ≡ Some m → ((r : List ℕ) → IsBehind (f m.mark) t r → ⊥) → k ≡ n → (r : List ℕ) → IsPrefixed f ms t k r → ⊥
not_at f ms t n k m at unlike same r p =
    let one : p.member ≡ m = same_Some p.member m (sym p.there ∙ ap (slice_get ms) same ∙ at) in
    unlike r (subst (λ x. IsBehind (f x.mark) t r) one p.behind)

pub none_more : (f : Mark → Option (List ℕ)) (ms xs : List Member) (t : List ℕ) (n : ℕ) (d : Member) → xs ≡ ms → n < length xs → ((r : List ℕ) → IsBehind (f (get_or xs n d).mark) t r → ⊥) → NoneBefore f ms t n → NoneBefore f ms t (n + 1)
none_more f ms xs t n d same lt unlike none k r below p = by_order (le_or k n)
  where
    at : slice_get ms n ≡ Some (get_or xs n d)
    at = ap (λ ys. slice_get ys n) (sym same) ∙ slice_get-get_or xs n d lt

    le_or : (k n : ℕ) → (k < n) ⊎ (n ≤ k)
    le_or k n = grind arith

    by_order : (k < n) ⊎ (n ≤ k) → ⊥
    by_order (inl l) = none k r l p
    by_order (inr g) = not_at f ms t n k (get_or xs n d) at unlike (omega arith) r p

pub none_all : (f : Mark → Option (List ℕ)) (ms xs : List Member) (t : List ℕ) (n : ℕ) → xs ≡ ms → length xs ≤ n → NoneBefore f ms t n → (k : ℕ) (r : List ℕ) → IsPrefixed f ms t k r → ⊥
none_all f ms xs t n same le none k r p =
    let within = slice_get_within ms k p.member p.there in
    none k r (omega (arith, ap length same)) p

-- one byte of the digits
hex_bytes_two : (ds : List ℕ) → 2 ≤ length ds → bytes_of_hex ds ≡ option_and_then (λ b. option_map (λ (bs : List ℕ). b ∷ bs) (bytes_of_hex (drop 2 ds))) (hex_byte (get_or ds 0 0) (get_or ds 1 0))
hex_bytes_two [] two = absurd (omega arith)
hex_bytes_two (h ∷ []) two = absurd (omega arith)
hex_bytes_two (h ∷ l ∷ ds) two = refl

pub no_byte : (ds t : List ℕ) → 2 ≤ length ds → hex_byte (get_or ds 0 0) (get_or ds 1 0) ≡ None → (r : List ℕ) → IsBehind (bytes_of_hex ds) t r → ⊥
no_byte ds t two none r b =
    let e = hex_bytes_two ds two ∙ ap (option_and_then (λ (b : ℕ). option_map (λ (bs : List ℕ). b ∷ bs) (bytes_of_hex (drop 2 ds)))) none in
    none-some b.front (sym e ∙ b.known)

-- the digits stand for a byte and what the others stand for
byte_first : (ds : List ℕ) (b : ℕ) → 2 ≤ length ds → hex_byte (get_or ds 0 0) (get_or ds 1 0) ≡ Some b → bytes_of_hex ds ≡ option_map (λ (bs : List ℕ). b ∷ bs) (bytes_of_hex (drop 2 ds))
byte_first ds b two some = hex_bytes_two ds two ∙ ap (option_and_then (λ (c : ℕ). option_map (λ (bs : List ℕ). c ∷ bs) (bytes_of_hex (drop 2 ds)))) some

front_of : (b : ℕ) (o : Option (List ℕ)) (p : List ℕ) → option_map (λ (bs : List ℕ). b ∷ bs) o ≡ Some p → (q : List ℕ) × (o ≡ Some q) × (p ≡ b ∷ q)
front_of b None p e = absurd (none-some p e)
front_of b (Some q) p e = (q, refl, sym (same_Some (b ∷ q) p e))

pub other_byte : (ds t : List ℕ) (b : ℕ) → 2 ≤ length ds → hex_byte (get_or ds 0 0) (get_or ds 1 0) ≡ Some b → (length t ≡ 0) ⊎ (get_or t 0 0 ≡ b → ⊥) → (r : List ℕ) → IsBehind (bytes_of_hex ds) t r → ⊥
other_byte ds t b two some unlike r p =
    let f = front_of b (bytes_of_hex (drop 2 ds)) p.front (sym (byte_first ds b two some) ∙ p.known) in
    let e : t ≡ b ∷ (f.0 ++ r) = p.whole ∙ ap (λ xs. xs ++ r) f.2 in
    by unlike (f.0 ++ r) e
  where
    by : (length t ≡ 0) ⊎ (get_or t 0 0 ≡ b → ⊥) → (q : List ℕ) → t ≡ b ∷ q → ⊥
    by (inl z) q e = absurd (omega (arith, ap length e))
    by (inr u) q e = u (ap (λ xs. get_or xs 0 0) e)

pub passes : (ds t : List ℕ) (b : ℕ) → 2 ≤ length ds → hex_byte (get_or ds 0 0) (get_or ds 1 0) ≡ Some b → 0 < length t → get_or t 0 0 ≡ b → PassesDigits ds t (drop 2 ds) (drop 1 t)
passes ds [] b two some one first = absurd (omega arith)
passes ds (c ∷ t) b two some one first = record {
  fewer = omega (arith, length-drop 2 ds);
  same = λ r. (grow r, shrink r);
} where
  grow : (r : List ℕ) → IsBehind (bytes_of_hex (drop 2 ds)) t r → IsBehind (bytes_of_hex ds) (c ∷ t) r
  grow r p = record {
    front = b ∷ p.front;
    known = byte_first ds b two some ∙ ap (option_map (λ (bs : List ℕ). b ∷ bs)) p.known;
    whole = λ i. first i ∷ p.whole i;
  }

  shrink : (r : List ℕ) → IsBehind (bytes_of_hex ds) (c ∷ t) r → IsBehind (bytes_of_hex (drop 2 ds)) t r
  shrink r p =
      let f = front_of b (bytes_of_hex (drop 2 ds)) p.front (sym (byte_first ds b two some) ∙ p.known) in
      let e : c ∷ t ≡ b ∷ (f.0 ++ r) = p.whole ∙ ap (λ xs. xs ++ r) f.2 in
      record { front = f.0; known = f.1; whole = ap (drop 1) e }

-- where no two digits are left
pub whole_behind : (ds t : List ℕ) → length ds ≡ 0 → IsBehind (bytes_of_hex ds) t t
whole_behind [] t none = record { front = []; known = refl; whole = refl }
whole_behind (d ∷ ds) t none = absurd (omega arith)

pub odd_behind : (ds t r : List ℕ) → length ds < 2 → (length ds ≡ 0 → ⊥) → IsBehind (bytes_of_hex ds) t r → ⊥
odd_behind [] t r few some p = some refl
odd_behind (d ∷ []) t r few some p = none-some p.front p.known
odd_behind (d ∷ e ∷ ds) t r few some p = absurd (omega arith)

-- the same texts stand behind what is left and behind the whole
abbrev pub Same : List ℕ → List ℕ → List ℕ → List ℕ → Type 0
Same ds t es u = (r : List ℕ) → (IsBehind (bytes_of_hex es) u r → IsBehind (bytes_of_hex ds) t r) × (IsBehind (bytes_of_hex ds) t r → IsBehind (bytes_of_hex es) u r)

pub same_goes : (ds t es u fs v : List ℕ) → Same ds t es u → PassesDigits es u fs v → Same ds t fs v
same_goes ds t es u fs v s p r = (λ b. (s r).0 ((p.same r).0 b), λ b. (p.same r).1 ((s r).1 b))

pub none_from_test : (n : ℕ) (b : Bool) → b ≡ nat_eq n 0 → b ≡ true → n ≡ 0
none_from_test n b e f = grind (arith, nat_tests)

pub some_from_test : (n : ℕ) (b : Bool) → b ≡ nat_eq n 0 → b ≡ false → 0 < n
some_from_test n b e f = grind (arith, nat_tests)

-- the digits are the text of the mark
pub strips_bytes : (mark : Mark) (digits ds t : List ℕ) (r : Option (List ℕ)) → mark ≡ K.Text digits → ds ≡ digits → Strips (bytes_of_hex ds) t r → Strips (bytes_mark mark) t r
strips_bytes mark digits ds t r is same s = subst (λ p. Strips p t r) (ap bytes_of_hex same ∙ sym (ap bytes_mark is)) s

-- of two fronts of a text the longer one begins with the other
longer_front : (p q r s : List ℕ) → p ++ r ≡ q ++ s → length p ≤ length q → q ≡ p ++ drop (length p) q
longer_front p q r s e le =
    sym (take-append-drop (length p) q)
    ∙ ap (λ xs. xs ++ drop (length p) q) (sym (take-append-le (length p) q s le) ∙ ap (take (length p)) (sym e) ∙ take_at p r (length p) refl)

same_member : (f : Mark → Option (List ℕ)) (ms : List Member) (t : List ℕ) (i j : ℕ) (r s : List ℕ) → AreApart f ms → (a : IsPrefixed f ms t i r) (b : IsPrefixed f ms t j s) → length a.behind.front ≤ length b.behind.front → i ≡ j
same_member f ms t i j r s apart a b le =
    let p = a.behind.front in
    let q = b.behind.front in
    apart i j a.member b.member p (drop (length p) q) a.there b.there a.behind.known (b.behind.known ∙ ap Some (longer_front p q r s (sym a.behind.whole ∙ b.behind.whole) le))

same_rest : (f : Mark → Option (List ℕ)) (ms : List Member) (t : List ℕ) (i j : ℕ) (r s : List ℕ) → i ≡ j → IsPrefixed f ms t i r → IsPrefixed f ms t j s → r ≡ s
same_rest f ms t i j r s same a b =
    let one : a.member ≡ b.member = same_Some a.member b.member (sym a.there ∙ ap (slice_get ms) same ∙ b.there) in
    let front : a.behind.front ≡ b.behind.front = same_Some a.behind.front b.behind.front (sym a.behind.known ∙ ap (λ (m : Member). f m.mark) one ∙ b.behind.known) in
    append_cancel_left b.behind.front r s (ap (λ xs. xs ++ r) (sym front) ∙ sym a.behind.whole ∙ b.behind.whole)

pub one_prefixed_lem : OnePrefixed
one_prefixed_lem f ms t i j r s apart a b =
    let same = by_length (either (length a.behind.front) (length b.behind.front)) in
    (same, same_rest f ms t i j r s same a b)
  where
    either : (m n : ℕ) → (m ≤ n) ⊎ (n ≤ m)
    either m n = grind arith

    by_length : (length a.behind.front ≤ length b.behind.front) ⊎ (length b.behind.front ≤ length a.behind.front) → i ≡ j
    by_length (inl le) = same_member f ms t i j r s apart a b le
    by_length (inr ge) = sym (same_member f ms t j i s r apart b a ge)
