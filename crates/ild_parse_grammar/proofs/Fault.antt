-- Where reading stops, no text of the grammar goes on, though one begins so.
use Rattle.std.proofs.Common.{◌≡◌, ℕ, List, [], ◌∷◌, ◌++◌, length, Result, Ok, Err, refl, sym, subst, ◌∙◌, append_assoc, inl, inr}
use Rattle.std.proofs.lemmas.List.{append-nil}
use Rattle.ild_lex.specs.declared.token.Token.{Token}
use Rattle.ild_parse_grammar.specs.declared.ast.Ast.{Ast}
use Rattle.ild_parse_grammar.specs.declared.ast.Decl.{Decl}
use Rattle.ild_parse_grammar.specs.Sign.{Sign, place_of}
use Rattle.ild_parse_grammar.proofs.Stream.{Stream, stream, most, is_end}
use Rattle.ild_parse_grammar.proofs.Read.{many_at}
use Rattle.ild_parse_grammar.proofs.Grammar.{decl_at, schema_at}
use Rattle.ild_parse_grammar.specs.Derive.{AreParts}
use Rattle.ild_parse_grammar.specs.DerivePart.{IsDecl}
use Rattle.ild_parse_grammar.specs.Fault.{BeginText, IsDead, IsWrongAt}
use Rattle.ild_parse_grammar.proofs.Complete.{reading}
use Rattle.ild_parse_grammar.proofs.CompleteParts.{decls-complete}
use Rattle.ild_parse_grammar.proofs.Local.{Same, same_self}
use Rattle.ild_parse_grammar.proofs.Opens.{Grows}
use Rattle.ild_parse_grammar.proofs.OpensBodies.{decls-opens}
use Rattle.ild_parse_grammar.proofs.Results.{failed, no_value}

decls_at : Stream → Result (List Decl × Stream) ℕ
decls_at s = many_at decl_at is_end (most s) s

both_ways : {A : Type 0} (r : Result A ℕ) (at : ℕ) (y : A) → r ≡ Err at → r ≡ Ok y → ⊥
both_ways r at y e f = no_value at y (sym e ∙ f)

same_fault : {A : Type 0} (a b : ℕ) → failed {A = A} a ≡ failed b → a ≡ b
same_fault a b e = cc

dead : (end : ℕ) (front rest : List Sign) → ((zs : List Sign) → Same rest zs → decls_at (reading end (front ++ zs)) ≡ Err (place_of end rest)) → IsDead front rest
unfolding decls_at
dead end front [] fails = λ tree d.
    both_ways (decls_at (reading end front)) end (tree.decls, reading end []) (subst (λ (xs : List Sign). decls_at (reading end xs) ≡ Err end) (append-nil front) (fails [] tt)) (decls-complete end tree.decls front d)
dead end front (t ∷ after) fails = λ begun.
    let all : List Sign = front ++ t ∷ begun.0 in
    let text : AreParts IsDecl begun.1.decls all [] = subst (λ (xs : List Sign). AreParts IsDecl begun.1.decls xs []) (append_assoc front (t ∷ []) begun.0) begun.2 in
    both_ways (decls_at (reading end all)) t.at (begun.1.decls, reading end []) (fails (t ∷ begun.0) refl) (decls-complete end begun.1.decls all text)

-- what grows to declarations begins a text
begins_text : (front : List Sign) → Grows (AreParts IsDecl) front → BeginText front
begins_text front g = (g.more, record { decls = g.made }, subst (λ (xs : List Sign). AreParts IsDecl g.made xs []) (append-nil (front ++ g.more)) (g.whole []))

pub schema_wrong : (src : List ℕ) (ts : List Token) (at : ℕ) → schema_at (stream src ts) ≡ Err at → IsWrongAt src ts at
unfolding schema_at decls_at
schema_wrong src ts at e =
    let xs : List Sign = (stream src ts).signs in
    let end : ℕ = length src in
    elim (decls-opens end xs).is [
      | inl r ↦
          let h = r.found in
          let here : decls_at (reading end xs) ≡ Ok (h.part, reading end h.rest) = rw h.are (h.read h.rest (same_self h.rest)) in
          let read : schema_at (stream src ts) ≡ Ok (record { decls = h.part }) = rw here refl in
          absurd (both_ways (schema_at (stream src ts)) at (record { decls = h.part }) e read)
      | inr w ↦
          let h = w.stops in
          let here : decls_at (reading end xs) ≡ Err (place_of end h.rest) = rw h.are (h.fails h.rest (same_self h.rest)) in
          let stops : schema_at (stream src ts) ≡ Err (place_of end h.rest) = rw here refl in
          (h.front, h.rest, h.are, same_fault {A = Ast} at (place_of end h.rest) (sym e ∙ stops), begins_text h.front w.grows, dead end h.front h.rest h.fails)
    ]
