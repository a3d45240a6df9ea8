-- A source has one wrong place, and none where it has a tree: what begins a text of the grammar has no dead token in it.
use Rattle.std.proofs.Common.{◌≡◌, ◌⊎◌, ℕ, List, [], ◌∷◌, ◌++◌, length, refl, sym, ap, subst, ◌∙◌, inl, inr, append_assoc}
use Rattle.std.proofs.lemmas.List.{append-nil}
use Rattle.ild_lex.specs.declared.token.Token.{Token}
use Rattle.ild_parse_grammar.specs.declared.ast.Ast.{Ast}
use Rattle.ild_parse_grammar.specs.Sign.{Sign, place_of}
use Rattle.ild_parse_grammar.specs.Derive.{AreParts}
use Rattle.ild_parse_grammar.specs.DerivePart.{IsDecl, Derives}
use Rattle.ild_parse_grammar.specs.Fault.{BeginText, IsDead, IsWrongAt}

-- the tokens `more` stand between the end of one front and the end of a longer one
record Longer (front rest longer less : List Sign) : Type 0 where
  pub first : Sign
  pub more : List Sign
  pub front_is : longer ≡ front ++ (first ∷ more)
  pub rest_is : rest ≡ first ∷ (more ++ less)

-- two ways to cut a list
record Same (front rest other less : List Sign) : Type 0 where
  pub front_is : front ≡ other
  pub rest_is : rest ≡ less

Cuts : List Sign → List Sign → List Sign → List Sign → Type 0
Cuts front rest other less = Same front rest other less ⊎ (Longer front rest other less ⊎ Longer other less front rest)

below : (t u : Sign) (front rest other less : List Sign) → t ≡ u → Cuts front rest other less → Cuts (t ∷ front) rest (u ∷ other) less
unfolding Cuts
below t u front rest other less e (inl h) = inl (record { front_is = λ i. e i ∷ h.front_is i; rest_is = h.rest_is })
below t u front rest other less e (inr (inl h)) = inr (inl (record { first = h.first; more = h.more; front_is = λ i. sym e i ∷ h.front_is i; rest_is = h.rest_is }))
below t u front rest other less e (inr (inr h)) = inr (inr (record { first = h.first; more = h.more; front_is = λ i. e i ∷ h.front_is i; rest_is = h.rest_is }))

first_same : (t u : Sign) (xs ys : List Sign) → (t ∷ xs) ≡ (u ∷ ys) → t ≡ u
first_same t u xs ys e = cc

others_same : (t u : Sign) (xs ys : List Sign) → (t ∷ xs) ≡ (u ∷ ys) → xs ≡ ys
others_same t u xs ys e = cc

cuts : (front rest other less : List Sign) → front ++ rest ≡ other ++ less → Cuts front rest other less
unfolding Cuts
cuts [] rest [] less e = inl (record { front_is = refl; rest_is = e })
cuts [] rest (u ∷ other) less e = inr (inl (record { first = u; more = other; front_is = refl; rest_is = e }))
cuts (t ∷ front) rest [] less e = inr (inr (record { first = t; more = front; front_is = refl; rest_is = sym e }))
cuts (t ∷ front) rest (u ∷ other) less e =
    below t u front rest other less (first_same t u (front ++ rest) (other ++ less) e) (cuts front rest other less (others_same t u (front ++ rest) (other ++ less) e))

pub fronts_begin_lem : (front rest : List Sign) → BeginText (front ++ rest) → BeginText front
fronts_begin_lem front rest h = (rest ++ h.0, h.1, subst (λ (xs : List Sign). AreParts IsDecl h.1.decls xs []) (append_assoc front rest h.0) h.2)

-- no text goes on past a dead token
never_past : (front rest longer less : List Sign) → Longer front rest longer less → IsDead front rest → BeginText longer → ⊥
never_past front rest longer less l dead begun =
    let stops : IsDead front (l.first ∷ (l.more ++ less)) = subst (λ (xs : List Sign). IsDead front xs) l.rest_is dead in
    let cut : longer ≡ (front ++ l.first ∷ []) ++ l.more = l.front_is ∙ sym (append_assoc front (l.first ∷ []) l.more) in
    stops (fronts_begin_lem (front ++ l.first ∷ []) l.more (subst BeginText cut begun))

pub one_wrong_place_lem : (src : List ℕ) (ts : List Token) (at other : ℕ) → IsWrongAt src ts at → IsWrongAt src ts other → at ≡ other
unfolding Cuts
one_wrong_place_lem src ts at other p q =
    elim (cuts p.0 p.1 q.0 q.1 (sym p.2 ∙ q.2)) [
      | inl h ↦ p.3 ∙ ap (place_of (length src)) h.rest_is ∙ sym q.3
      | inr h ↦ elim h [
        | inl l ↦ absurd (never_past p.0 p.1 q.0 q.1 l p.5 q.4)
        | inr l ↦ absurd (never_past q.0 q.1 p.0 p.1 l q.5 p.4)
      ]
    ]

no_text : (before after : List Sign) (tree : Ast) → AreParts IsDecl tree.decls (before ++ after) [] → IsDead before after → ⊥
no_text before [] tree d dead = dead tree (subst (λ (xs : List Sign). AreParts IsDecl tree.decls xs []) (append-nil before) d)
no_text before (t ∷ after) tree d dead = dead (after, tree, subst (λ (xs : List Sign). AreParts IsDecl tree.decls xs []) (sym (append_assoc before (t ∷ []) after)) d)

pub tree_or_place_lem : (src : List ℕ) (ts : List Token) (tree : Ast) (at : ℕ) → Derives src ts tree → IsWrongAt src ts at → ⊥
tree_or_place_lem src ts tree at d p = no_text p.0 p.1 tree (subst (λ (xs : List Sign). AreParts IsDecl tree.decls xs []) p.2 d) p.5
