-- Every text is written by exactly one segment.
use Rattle.std.proofs.Common.{◌≡◌, ℕ, List, [], ◌∷◌, ◌++◌, Bool, true, false, cond, not, eqb, Option, Some, None, option_map, refl, sym, ap, ◌∙◌, arith}
use Rattle.std.specs.Prelude.{◌&&◌}
use Rattle.std.specs.List.{flat_map, list_all}
use Rattle.std.proofs.lemmas.Bool.Decides.{nat_tests}
use Rattle.std.proofs.lemmas.Option.{same_Some, none-some}
use Rattle.ild_script.specs.Escape.{escaped_byte, before, unescaped}
use Rattle.ild_script.specs.Laws.{escape, segment_text, is_segment_byte, TextsAreReadBack, SegmentsAreOne}
use Rattle.ild_script.proofs.Escapes.{plain_byte}

is_byte : (b n : ℕ) → true ≡ eqb b n → b ≡ n
is_byte b n e = grind (arith, nat_tests)

abbrev Written : ℕ → List ℕ → List ℕ → Type 0
Written b bs rest = unescaped (bs ++ rest) ≡ option_map (λ xs. b ∷ xs) (unescaped rest)

by_tests : (b : ℕ) (rest : List ℕ) (p q r s : Bool) → p ≡ eqb b 126 → q ≡ eqb b 47 → r ≡ eqb b 32 → s ≡ eqb b 10
    → Written b (cond p (126 ∷ 48 ∷ []) (cond q (126 ∷ 49 ∷ []) (cond r (126 ∷ 50 ∷ []) (cond s (126 ∷ 51 ∷ []) (b ∷ []))))) rest
by_tests b rest true q r s e f g h = ap (λ c. option_map (λ xs. c ∷ xs) (unescaped rest)) (sym (is_byte b 126 e))
by_tests b rest false true r s e f g h = ap (λ c. option_map (λ xs. c ∷ xs) (unescaped rest)) (sym (is_byte b 47 f))
by_tests b rest false false true s e f g h = ap (λ c. option_map (λ xs. c ∷ xs) (unescaped rest)) (sym (is_byte b 32 g))
by_tests b rest false false false true e f g h = ap (λ c. option_map (λ xs. c ∷ xs) (unescaped rest)) (sym (is_byte b 10 h))
by_tests b rest false false false false e f g h = plain_byte b rest e

written : (b : ℕ) (rest : List ℕ) → Written b (escape b) rest
written b rest = by_tests b rest (eqb b 126) (eqb b 47) (eqb b 32) (eqb b 10) refl refl refl refl

pub read_back : TextsAreReadBack
read_back [] = refl
read_back (b ∷ bs) = written b (flat_map escape bs) ∙ ap (option_map (λ xs. b ∷ xs)) (read_back bs)

bytes_first : (a b : Bool) → (a && b) ≡ true → a ≡ true
bytes_first true b e = refl
bytes_first false b e = absurd cc

bytes_rest : (a b : Bool) → (a && b) ≡ true → b ≡ true
bytes_rest true b e = e
bytes_rest false b e = absurd cc

-- a byte that stands for itself is its own escape
plain_escape : (b : ℕ) → is_segment_byte b ≡ true → false ≡ eqb b 126 → escape b ≡ b ∷ []
plain_escape b byte e = by (eqb b 126) (eqb b 47) (eqb b 32) (eqb b 10) (sym e) byte where
  by : (p q r s : Bool) → p ≡ false → (not q && (not r && not s)) ≡ true → cond p (126 ∷ 48 ∷ []) (cond q (126 ∷ 49 ∷ []) (cond r (126 ∷ 50 ∷ []) (cond s (126 ∷ 51 ∷ []) (b ∷ [])))) ≡ b ∷ []
  by false false false false e byte = refl
  by true q r s e byte = absurd cc
  by false true r s e byte = absurd cc
  by false false true s e byte = absurd cc
  by false false false true e byte = absurd cc

-- what stands behind a `~` is the rest of an escape
escape_by : (c : ℕ) (p q r s : Bool) → p ≡ eqb c 48 → q ≡ eqb c 49 → r ≡ eqb c 50 → s ≡ eqb c 51 → (m : ℕ) → cond p (Some 126) (cond q (Some 47) (cond r (Some 32) (cond s (Some 10) None))) ≡ Some m → escape m ≡ 126 ∷ c ∷ []
escape_by c true q r s e f g h m is = ap escape (sym (same_Some 126 m is)) ∙ ap (λ x. 126 ∷ x ∷ []) (sym (is_byte c 48 e))
escape_by c false true r s e f g h m is = ap escape (sym (same_Some 47 m is)) ∙ ap (λ x. 126 ∷ x ∷ []) (sym (is_byte c 49 f))
escape_by c false false true s e f g h m is = ap escape (sym (same_Some 32 m is)) ∙ ap (λ x. 126 ∷ x ∷ []) (sym (is_byte c 50 g))
escape_by c false false false true e f g h m is = ap escape (sym (same_Some 10 m is)) ∙ ap (λ x. 126 ∷ x ∷ []) (sym (is_byte c 51 h))
escape_by c false false false false e f g h m is = absurd cc

-- a list behind its first element
first_and_rest : (b : ℕ) (r : Option (List ℕ)) (t : List ℕ) → option_map (λ xs. b ∷ xs) r ≡ Some t → (u : List ℕ) × (r ≡ Some u) × (t ≡ b ∷ u)
first_and_rest b None t e = absurd (none-some t e)
first_and_rest b (Some u) t e = (u, refl, sym (same_Some (b ∷ u) t e))

behind_some : (o : Option ℕ) (r : Option (List ℕ)) (t : List ℕ) → before o r ≡ Some t → (m : ℕ) × (o ≡ Some m) × ((u : List ℕ) × (r ≡ Some u) × (t ≡ m ∷ u))
behind_some None r t e = absurd (none-some t e)
behind_some (Some m) r t e = (m, refl, first_and_rest m r t e)

one_by : (b c : ℕ) (bs : List ℕ) (q : Bool) → q ≡ eqb b 126 → list_all is_segment_byte (b ∷ c ∷ bs) ≡ true
    → ((t : List ℕ) → unescaped bs ≡ Some t → bs ≡ segment_text t) → ((t : List ℕ) → unescaped (c ∷ bs) ≡ Some t → c ∷ bs ≡ segment_text t)
    → (t : List ℕ) → cond q (before (escaped_byte c) (unescaped bs)) (before (Some b) (unescaped (c ∷ bs))) ≡ Some t → b ∷ c ∷ bs ≡ segment_text t
one_by b c bs true e bytes short long t is =
    let p = behind_some (escaped_byte c) (unescaped bs) t is in
    let two : escape p.0 ≡ 126 ∷ c ∷ [] = escape_by c (eqb c 48) (eqb c 49) (eqb c 50) (eqb c 51) refl refl refl refl p.0 p.1 in
    ap (λ x. x ∷ c ∷ bs) (is_byte b 126 e) ∙ ap (λ xs. 126 ∷ c ∷ xs) (short p.2.0 p.2.1) ∙ ap (λ xs. xs ++ segment_text p.2.0) (sym two) ∙ sym (ap segment_text p.2.2)
one_by b c bs false e bytes short long t is =
    let p = first_and_rest b (unescaped (c ∷ bs)) t is in
    let own = plain_escape b (bytes_first (is_segment_byte b) (list_all is_segment_byte (c ∷ bs)) bytes) e in
    ap (λ xs. b ∷ xs) (long p.0 p.1) ∙ ap (λ xs. xs ++ segment_text p.0) (sym own) ∙ sym (ap segment_text p.2)

last_by : (b : ℕ) (q : Bool) → q ≡ eqb b 126 → list_all is_segment_byte (b ∷ []) ≡ true → (t : List ℕ) → cond q None (Some (b ∷ [])) ≡ Some t → b ∷ [] ≡ segment_text t
last_by b true e bytes t is = absurd cc
last_by b false e bytes t is =
    let own = plain_escape b (bytes_first (is_segment_byte b) true bytes) e in
    ap (λ xs. xs ++ []) (sym own) ∙ ap segment_text (same_Some (b ∷ []) t is)

pub segments_one : SegmentsAreOne
segments_one [] t bytes is = ap segment_text (same_Some [] t is)
segments_one (b ∷ []) t bytes is = last_by b (eqb b 126) refl bytes t is
segments_one (b ∷ c ∷ bs) t bytes is =
    let rest = bytes_rest (is_segment_byte b) (list_all is_segment_byte (c ∷ bs)) bytes in
    one_by b c bs (eqb b 126) refl bytes (λ u e. segments_one bs u (bytes_rest (is_segment_byte c) (list_all is_segment_byte bs) rest) e) (λ u e. segments_one (c ∷ bs) u rest e) t is
