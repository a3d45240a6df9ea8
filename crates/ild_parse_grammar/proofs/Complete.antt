-- What is derived is read: words, names, texts and numbers, and the tools for the rules above them.
use Rattle.std.proofs.Common.{◌≡◌, ℕ, zero, suc, ◌+◌, ◌<◌, ◌≤◌, Bool, true, false, List, [], ◌∷◌, length, Result, Ok, Some, refl, sym, ap, subst, ◌∙◌, arith}
use Rattle.std.specs.Prelude.{codes, nat_eq, ◌&&◌}
use Rattle.std.proofs.lemmas.Bool.{false≢true, and_parts}
use Rattle.ild_lex.specs.declared.token.TokenKind.{TokenKind}
use Rattle.ild_lex.specs.declared.token.TokenKind.TheVariants as K
use Rattle.ild_parse_grammar.specs.declared.ast.TypeName.{TypeName}
use Rattle.ild_parse_grammar.specs.declared.ast.Name.{Name}
use Rattle.ild_parse_grammar.specs.declared.ast.Text.{Text}
use Rattle.ild_parse_grammar.specs.declared.ast.Number.{Number}
use Rattle.ild_parse_grammar.specs.Sign.{Sign, place_of, kind_of_text, begins_upper, is_word_kind, is_number_kind, is_text_kind}
use Rattle.ild_parse_grammar.proofs.Stream.{Stream, kind_code, is_literal, same_text, begins}
use Rattle.ild_data.specs.Decimal.{decimal_of}
use Rattle.ild_parse_grammar.specs.Value.{meaning}
use Rattle.ild_parse_grammar.proofs.Read.{literal_at, type_name_at, name_at, text_at, number_at, many_at}
use Rattle.ild_parse_grammar.proofs.Refer.{behind_word}
use Rattle.ild_parse_grammar.proofs.Grammar.{closes, braced_at}
use Rattle.ild_parse_grammar.specs.Derive.{IsWord, IsTypeName, IsName, IsText, IsNumber, BeginsAt, IsOptionalWord, AreParts, AreBraced}
use Rattle.ild_parse_grammar.proofs.Literal.{kind_code_same, same_is}

-- the tokens xs of a source of this length are still to be read
abbrev pub reading : ℕ → List Sign → Stream
reading end xs = record { end = end; signs = xs }

abbrev pub word_sign : List ℕ → ℕ → Sign
word_sign w at = record { kind = kind_of_text w; at = at; text = w }

-- ---- a part is known by its first token

pub by_word : (P : List Sign → Type 0) (w : List ℕ) (xs ys : List Sign) → IsWord w xs ys → ((at : ℕ) → P (word_sign w at ∷ ys)) → P xs
by_word P w [] ys h k = absurd h
by_word P w (t ∷ xs) ys h k =
    let same : (word_sign w t.at ∷ ys) ≡ (t ∷ xs) = λ i. record { kind = sym h.0 i; at = t.at; text = sym h.1 i } ∷ sym h.2 i in
    subst P same (k t.at)

kind_word : (k : TokenKind) → is_word_kind k ≡ true → K.Word ≡ k
kind_word K.Word e = refl
kind_word k e = absurd (false≢true e)

kind_text : (k : TokenKind) → is_text_kind k ≡ true → K.Text ≡ k
kind_text K.Text e = refl
kind_text k e = absurd (false≢true e)

kind_number : (k : TokenKind) → is_number_kind k ≡ true → K.Number ≡ k
kind_number K.Number e = refl
kind_number k e = absurd (false≢true e)

pub by_type : (P : List Sign → Type 0) (n : TypeName) (xs ys : List Sign) → IsTypeName n xs ys → (begins_upper n.name ≡ true → P (record { kind = K.Word; at = n.at; text = n.name } ∷ ys)) → P xs
by_type P n [] ys h k = absurd h
by_type P n (t ∷ xs) ys h k =
    let both = and_parts (is_word_kind t.kind) (begins_upper t.text) h.0 in
    let kind = kind_word t.kind both.0 in
    let same : (record { kind = K.Word; at = n.at; text = n.name } ∷ ys) ≡ (t ∷ xs) = λ i. record { kind = kind i; at = h.1 i; text = h.2 i } ∷ sym h.3 i in
    subst P same (k (subst (λ (z : List ℕ). begins_upper z ≡ true) (sym h.2) both.1))

pub by_name : (P : List Sign → Type 0) (n : Name) (xs ys : List Sign) → IsName n xs ys → P (record { kind = K.Word; at = n.at; text = n.name } ∷ ys) → P xs
by_name P n [] ys h k = absurd h
by_name P n (t ∷ xs) ys h k =
    let kind = kind_word t.kind h.0 in
    let same : (record { kind = K.Word; at = n.at; text = n.name } ∷ ys) ≡ (t ∷ xs) = λ i. record { kind = kind i; at = h.1 i; text = h.2 i } ∷ sym h.3 i in
    subst P same k

pub by_text : (P : List Sign → Type 0) (x : Text) (xs ys : List Sign) → IsText x xs ys → ((text : List ℕ) → x.text ≡ meaning text → P (record { kind = K.Text; at = x.at; text = text } ∷ ys)) → P xs
by_text P x [] ys h k = absurd h
by_text P x (t ∷ xs) ys h k =
    let kind = kind_text t.kind h.0 in
    let same : (record { kind = K.Text; at = x.at; text = t.text } ∷ ys) ≡ (t ∷ xs) = λ i. record { kind = kind i; at = h.1 i; text = t.text } ∷ sym h.3 i in
    subst P same (k t.text h.2)

pub by_number : (P : List Sign → Type 0) (n : Number) (xs ys : List Sign) → IsNumber n xs ys → ((text : List ℕ) → decimal_of text ≡ Some n.value → P (record { kind = K.Number; at = n.at; text = text } ∷ ys)) → P xs
by_number P n [] ys h k = absurd h
by_number P n (t ∷ xs) ys h k =
    let kind = kind_number t.kind h.0 in
    let same : (record { kind = K.Number; at = n.at; text = t.text } ∷ ys) ≡ (t ∷ xs) = λ i. record { kind = kind i; at = h.1 i; text = t.text } ∷ sym h.3 i in
    subst P same (k t.text h.2)

-- ---- words, names, texts and numbers

same_itself : (w : List ℕ) → same_text w w ≡ true
same_itself [] = refl
same_itself (b ∷ bs) = rw (nat_itself b) (same_itself bs)
  where
    nat_itself : (n : ℕ) → nat_eq n n ≡ true
    nat_itself n = search (arith)

literal_itself : (w : List ℕ) (at : ℕ) → is_literal w (word_sign w at) ≡ true
literal_itself w at = rw (kind_code_same (kind_of_text w)) (same_itself w)

pub word-complete : (end : ℕ) (w : List ℕ) (xs ys : List Sign) → IsWord w xs ys → literal_at w (reading end xs) ≡ Ok (reading end ys)
unfolding literal_at
word-complete end w xs ys h = by_word (λ (zs : List Sign). literal_at w (reading end zs) ≡ Ok (reading end ys)) w xs ys h (λ at. rw (literal_itself w at) refl)

pub type-complete : (end : ℕ) (n : TypeName) (xs ys : List Sign) → IsTypeName n xs ys → type_name_at (reading end xs) ≡ Ok (n, reading end ys)
unfolding type_name_at
type-complete end n xs ys h = by_type (λ (zs : List Sign). type_name_at (reading end zs) ≡ Ok (n, reading end ys)) n xs ys h (λ upper. rw upper refl)

pub name-complete : (end : ℕ) (n : Name) (xs ys : List Sign) → IsName n xs ys → name_at (reading end xs) ≡ Ok (n, reading end ys)
unfolding name_at
name-complete end n xs ys h = by_name (λ (zs : List Sign). name_at (reading end zs) ≡ Ok (n, reading end ys)) n xs ys h refl

pub text-complete : (end : ℕ) (x : Text) (xs ys : List Sign) → IsText x xs ys → text_at (reading end xs) ≡ Ok (x, reading end ys)
unfolding text_at
text-complete end x xs ys h =
    by_text (λ (zs : List Sign). text_at (reading end zs) ≡ Ok (x, reading end ys)) x xs ys h
    (λ text e. ap (λ (m : List ℕ). Ok (record { at = x.at; text = m }, reading end ys)) (sym e))

pub number-complete : (end : ℕ) (n : Number) (xs ys : List Sign) → IsNumber n xs ys → number_at (reading end xs) ≡ Ok (n, reading end ys)
unfolding number_at
number-complete end n xs ys h = by_number (λ (zs : List Sign). number_at (reading end zs) ≡ Ok (n, reading end ys)) n xs ys h (λ text e. rw e refl)

-- ---- places, and words that may stand there

pub place_is : (end at : ℕ) (xs : List Sign) → BeginsAt at xs → place_of end xs ≡ at
place_is end at [] h = absurd h
place_is end at (t ∷ xs) h = sym h

pub optional_is : (end : ℕ) (w : List ℕ) (b : Bool) (xs us : List Sign) → IsOptionalWord w b xs us → begins w us ≡ false → (begins w xs ≡ b) × (behind_word w (reading end xs) ≡ reading end us)
optional_is end w true xs us h off =
    by_word (λ (zs : List Sign). (begins w zs ≡ true) × (behind_word w (reading end zs) ≡ reading end us)) w xs us h
    (λ at. (literal_itself w at, rw (literal_itself w at) refl))
optional_is end w false xs us h off = (rw h off, rw (h, off) refl)

and_false : (b : Bool) → (b && false) ≡ false
and_false true = refl
and_false false = refl

upper_no : (a w : List ℕ) → begins_upper a ≡ true → begins_upper w ≡ false → same_text a w ≡ false
upper_no a w upper lower =
    let Q : Bool → Type 0 = λ v. same_text a w ≡ v → v ≡ false in
    (elim (same_text a w) as Q [
      | true ↦ λ q. absurd (false≢true (sym lower ∙ ap begins_upper (sym (same_is a w q)) ∙ upper))
      | false ↦ λ q. refl
    ]) refl

-- a type's name is no word in lower case
pub type_no_word : (w : List ℕ) (n : TypeName) (xs ys : List Sign) → begins_upper w ≡ false → IsTypeName n xs ys → begins w xs ≡ false
type_no_word w n xs ys lower h = by_type (λ (zs : List Sign). begins w zs ≡ false) n xs ys h (λ upper. rw (upper_no n.name w upper lower) (and_false (nat_eq 0 (kind_code (kind_of_text w)))))

-- ---- parts that repeat

pub parts_may : {A : Type 0} (part : A → List Sign → List Sign → Type 0) (May : List Sign → Type 0) → ((a : A) (xs ys : List Sign) → part a xs ys → May xs)
    → (all : List A) (xs ys : List Sign) → AreParts part all xs ys → May ys → May xs
parts_may part May starts [] xs ys h may = subst May (sym h) may
parts_may part May starts (a ∷ all) xs ys h may = starts a xs h.0 h.1

pub parts_count : {A : Type 0} (part : A → List Sign → List Sign → Type 0) → ((a : A) (xs ys : List Sign) → part a xs ys → length ys < length xs)
    → (all : List A) (xs ys : List Sign) → AreParts part all xs ys → length all + length ys ≤ length xs
parts_count part less [] xs ys h = omega (arith, ap length h)
parts_count part less (a ∷ all) xs ys h = omega (arith, less a xs h.0 h.1, parts_count part less all h.0 ys h.2)

pub many-complete : {A : Type 0} (one : Stream → Result (A × Stream) ℕ) (ends : Stream → Bool) (part : A → List Sign → List Sign → Type 0) (May : List Sign → Type 0) (end : ℕ)
    → ((a : A) (xs ys : List Sign) → part a xs ys → May xs)
    → ((a : A) (xs ys : List Sign) → part a xs ys → ends (reading end xs) ≡ false)
    → ((a : A) (xs ys : List Sign) → part a xs ys → May ys → one (reading end xs) ≡ Ok (a, reading end ys))
    → (n : ℕ) (all : List A) (xs ys : List Sign) → AreParts part all xs ys → May ys → ends (reading end ys) ≡ true → length all < n → many_at one ends n (reading end xs) ≡ Ok (all, reading end ys)
unfolding many_at
many-complete one ends part May end starts goes each zero all xs ys h may stop lt = absurd (omega (arith, lt))
many-complete one ends part May end starts goes each (suc n) [] xs ys h may stop lt = rw (h, stop) refl
many-complete one ends part May end starts goes each (suc n) (a ∷ all) xs ys h may stop lt =
    let first = each a xs h.0 h.1 (parts_may part May starts all h.0 ys h.2 may) in
    let others = many-complete one ends part May end starts goes each n all h.0 ys h.2 may stop (omega (arith, lt)) in
    rw (goes a xs h.0 h.1, first, others) refl

pub braced-complete : {A : Type 0} (one : Stream → Result (A × Stream) ℕ) (part : A → List Sign → List Sign → Type 0) (May : List Sign → Type 0) (end : ℕ)
    → ((a : A) (xs ys : List Sign) → part a xs ys → May xs)
    → ((a : A) (xs ys : List Sign) → part a xs ys → begins (codes "}") xs ≡ false)
    → ((a : A) (xs ys : List Sign) → part a xs ys → May ys → one (reading end xs) ≡ Ok (a, reading end ys))
    → ((a : A) (xs ys : List Sign) → part a xs ys → length ys < length xs)
    → ((xs ys : List Sign) → IsWord (codes "}") xs ys → May xs)
    → (all : List A) (xs ys : List Sign) → AreBraced part all xs ys → braced_at one (reading end xs) ≡ Ok (all, reading end ys)
unfolding braced_at
braced-complete one part May end starts goes each less closing all xs ys h =
    let few = parts_count part less all h.0 h.1 h.3 in
    let stop : begins (codes "}") h.1 ≡ true = by_word (λ (zs : List Sign). begins (codes "}") zs ≡ true) (codes "}") h.1 ys h.4 (λ at. refl) in
    let inside = many-complete one closes part May end starts goes each (length h.0 + 1) all h.0 h.1 h.3 (closing h.1 ys h.4) stop (omega (arith, few)) in
    rw (word-complete end (codes "{") xs h.0 h.2, inside, word-complete end (codes "}") h.1 ys h.4) refl
