-- A segment, cut at its first `~`.
use Rattle.std.proofs.Common.{◌≡◌, ℕ, suc, ◌+◌, ◌<◌, List, [], ◌∷◌, ◌++◌, length, take, drop, Bool, true, false, cond, not, eqb, Option, Some, None, option_map, refl, sym, ap, ◌∙◌, append_assoc, arith}
use Rattle.std.specs.List.{before_first, after_first, position_or_len}
use Rattle.std.proofs.lemmas.Bool.Decides.{nat_tests}
use Rattle.std.proofs.lemmas.Option.{same_Some}
use Rattle.ild_script.specs.Escape.{escaped_byte, behind_tilde, before, unescaped}

abbrev pub is_tilde : ℕ → Bool
is_tilde b = eqb b 126

map_same : (r : Option (List ℕ)) → r ≡ option_map (λ xs. [] ++ xs) r
map_same None = refl
map_same (Some xs) = refl

map_twice : (xs ys : List ℕ) (r : Option (List ℕ)) → option_map (λ zs. xs ++ zs) (option_map (λ zs. ys ++ zs) r) ≡ option_map (λ zs. (xs ++ ys) ++ zs) r
map_twice xs ys None = refl
map_twice xs ys (Some zs) = ap Some (sym (append_assoc xs ys zs))

map_cons : (b : ℕ) (ys : List ℕ) (r : Option (List ℕ)) → option_map (λ zs. b ∷ zs) (option_map (λ zs. ys ++ zs) r) ≡ option_map (λ zs. (b ∷ ys) ++ zs) r
map_cons b ys None = refl
map_cons b ys (Some zs) = refl

is_126 : (b : ℕ) → true ≡ eqb b 126 → b ≡ 126
is_126 b e = grind (arith, nat_tests)

-- a byte that is no `~` stands for itself
pub plain_byte : (b : ℕ) (bs : List ℕ) → false ≡ eqb b 126 → unescaped (b ∷ bs) ≡ option_map (λ zs. b ∷ zs) (unescaped bs)
plain_byte b [] e = ap (λ t. cond t None (Some (b ∷ []))) (sym e)
plain_byte b (c ∷ bs) e = ap (λ t. cond t (before (escaped_byte c) (unescaped bs)) (before (Some b) (unescaped (c ∷ bs)))) (sym e)

abbrev Cuts : List ℕ → ℕ → Type 0
Cuts bs n = unescaped bs ≡ option_map (λ xs. take n bs ++ xs) (unescaped (126 ∷ drop (n + 1) bs))

cut_at : (t : Bool) (b : ℕ) (bs : List ℕ) (n : ℕ) → t ≡ eqb b 126 → (n < length bs → Cuts bs n) → cond (not t) (1 + n) 0 < length (b ∷ bs) → Cuts (b ∷ bs) (cond (not t) (1 + n) 0)
cut_at true b bs n e rest lt = ap (λ c. unescaped (c ∷ bs)) (is_126 b e) ∙ map_same (unescaped (126 ∷ bs))
cut_at false b bs n e rest lt =
    let one : 1 + n ≡ suc n = omega arith in
    let two : suc n + 1 ≡ suc (n + 1) = omega arith in
    rw (one, two) (plain_byte b bs e ∙ ap (option_map (λ zs. b ∷ zs)) (rest (omega arith)) ∙ map_cons b (take n bs) (unescaped (126 ∷ drop (n + 1) bs)))

pub cut_tilde : (bs : List ℕ) → position_or_len is_tilde bs < length bs → Cuts bs (position_or_len is_tilde bs)
cut_tilde [] lt = absurd (omega arith)
cut_tilde (b ∷ bs) lt = cut_at (eqb b 126) b bs (position_or_len is_tilde bs) refl (cut_tilde bs) lt

no_tilde_at : (t : Bool) (b : ℕ) (bs : List ℕ) (n : ℕ) → t ≡ eqb b 126 → (n ≡ length bs → unescaped bs ≡ Some bs) → cond (not t) (1 + n) 0 ≡ length (b ∷ bs) → unescaped (b ∷ bs) ≡ Some (b ∷ bs)
no_tilde_at true b bs n e rest is = absurd (omega arith)
no_tilde_at false b bs n e rest is = plain_byte b bs e ∙ ap (option_map (λ zs. b ∷ zs)) (rest (omega arith))

pub no_tilde : (bs : List ℕ) → position_or_len is_tilde bs ≡ length bs → unescaped bs ≡ Some bs
no_tilde [] is = refl
no_tilde (b ∷ bs) is = no_tilde_at (eqb b 126) b bs (position_or_len is_tilde bs) refl (no_tilde bs) is

escape_by : (o : Option ℕ) (bs after : List ℕ) (m : ℕ) → option_map {U = ℕ × List ℕ} (λ b. (b, bs)) o ≡ Some (m, after) → before o (unescaped bs) ≡ option_map (λ xs. m ∷ xs) (unescaped after)
escape_by None bs after m e = absurd cc
escape_by (Some b) bs after m e =
    let p = same_Some (b, bs) (m, after) e in
    ap (λ (x : ℕ × List ℕ). option_map (λ xs. x.0 ∷ xs) (unescaped x.1)) p

no_escape_by : (o : Option ℕ) (bs : List ℕ) → option_map {U = ℕ × List ℕ} (λ b. (b, bs)) o ≡ None → before o (unescaped bs) ≡ None
no_escape_by None bs e = refl
no_escape_by (Some b) bs e = absurd cc

behind_some : (escape after : List ℕ) (m : ℕ) → behind_tilde escape ≡ Some (m, after) → unescaped (126 ∷ escape) ≡ option_map (λ xs. m ∷ xs) (unescaped after)
behind_some [] after m e = absurd cc
behind_some (c ∷ bs) after m e = escape_by (escaped_byte c) bs after m e

behind_none : (escape : List ℕ) → behind_tilde escape ≡ None → unescaped (126 ∷ escape) ≡ None
behind_none [] e = refl
behind_none (c ∷ bs) e = no_escape_by (escaped_byte c) bs e

map_after : (xs : List ℕ) (m : ℕ) (r : Option (List ℕ)) → option_map (λ zs. xs ++ zs) (option_map (λ zs. m ∷ zs) r) ≡ option_map (λ zs. (xs ++ m ∷ []) ++ zs) r
map_after xs m None = refl
map_after xs m (Some zs) = ap Some (sym (append_assoc xs (m ∷ []) zs))

-- the text so far, and what is still to read of a segment
abbrev pub SoFar : List ℕ → List ℕ → List ℕ → Type 0
SoFar segment text rest = unescaped segment ≡ option_map (λ xs. text ++ xs) (unescaped rest)

pub so_far_start : (segment : List ℕ) → SoFar segment [] segment
so_far_start segment = map_same (unescaped segment)

pub so_far_more : (segment text rest plain escape after : List ℕ) (m : ℕ) → SoFar segment text rest → position_or_len is_tilde rest < length rest
    → plain ≡ before_first is_tilde rest → escape ≡ after_first is_tilde rest → behind_tilde escape ≡ Some (m, after) → SoFar segment ((text ++ plain) ++ m ∷ []) after
so_far_more segment text rest plain escape after m so lt front back behind =
    let cut : unescaped rest ≡ option_map (λ xs. plain ++ xs) (unescaped (126 ∷ escape)) = rw (front, back) (cut_tilde rest lt) in
    so ∙ ap (option_map (λ xs. text ++ xs)) cut ∙ map_twice text plain (unescaped (126 ∷ escape)) ∙ ap (option_map (λ xs. (text ++ plain) ++ xs)) (behind_some escape after m behind) ∙ map_after (text ++ plain) m (unescaped after)

pub so_far_stop : (segment text rest plain escape : List ℕ) → SoFar segment text rest → position_or_len is_tilde rest < length rest
    → plain ≡ before_first is_tilde rest → escape ≡ after_first is_tilde rest → behind_tilde escape ≡ None → unescaped segment ≡ None
so_far_stop segment text rest plain escape so lt front back behind =
    let cut : unescaped rest ≡ option_map (λ xs. plain ++ xs) (unescaped (126 ∷ escape)) = rw (front, back) (cut_tilde rest lt) in
    so ∙ ap (option_map (λ xs. text ++ xs)) (cut ∙ ap (option_map (λ xs. plain ++ xs)) (behind_none escape behind))

pub so_far_end : (segment text rest : List ℕ) → SoFar segment text rest → position_or_len is_tilde rest ≡ length rest → unescaped segment ≡ Some (text ++ rest)
so_far_end segment text rest so is = so ∙ ap (option_map (λ xs. text ++ xs)) (no_tilde rest is)

ascii_by : (o : Option ℕ) (bs after : List ℕ) (m : ℕ) → ((b : ℕ) → o ≡ Some b → b < 128) → option_map {U = ℕ × List ℕ} (λ b. (b, bs)) o ≡ Some (m, after) → m < 128
ascii_by None bs after m low e = absurd cc
ascii_by (Some b) bs after m low e = let p = same_Some (b, bs) (m, after) e in let q : b ≡ m = ap (λ (x : ℕ × List ℕ). x.0) p in let l = low b refl in omega arith

chosen : (t : Bool) (x : ℕ) (o : Option ℕ) → x < 128 → ((b : ℕ) → o ≡ Some b → b < 128) → (b : ℕ) → cond t (Some x) o ≡ Some b → b < 128
chosen true x o lt rest b e = let q = same_Some x b e in omega arith
chosen false x o lt rest b e = rest b e

pub escaped_ascii : (c : ℕ) (b : ℕ) → escaped_byte c ≡ Some b → b < 128
escaped_ascii c = chosen (eqb c 48) 126 _ (omega arith) (chosen (eqb c 49) 47 _ (omega arith) (chosen (eqb c 50) 32 _ (omega arith) (chosen (eqb c 51) 10 None (omega arith) (λ b e. absurd cc))))

-- what stands for a byte behind a `~` is ASCII
pub behind_ascii : (escape after : List ℕ) (m : ℕ) → behind_tilde escape ≡ Some (m, after) → m < 128
behind_ascii [] after m e = absurd cc
behind_ascii (c ∷ bs) after m e = ascii_by (escaped_byte c) bs after m (escaped_ascii c) e

shorter_by : (o : Option ℕ) (bs after : List ℕ) (m : ℕ) → option_map {U = ℕ × List ℕ} (λ b. (b, bs)) o ≡ Some (m, after) → length after < length bs + 1
shorter_by None bs after m e = absurd cc
shorter_by (Some b) bs after m e = let p = same_Some (b, bs) (m, after) e in let q : bs ≡ after = ap (λ (x : ℕ × List ℕ). x.1) p in rw (← q) (omega arith)

-- what follows is shorter
pub behind_shorter : (escape after : List ℕ) (m : ℕ) → behind_tilde escape ≡ Some (m, after) → length after < length escape
behind_shorter [] after m e = absurd cc
behind_shorter (c ∷ bs) after m e = omega (arith, shorter_by (escaped_byte c) bs after m e)
