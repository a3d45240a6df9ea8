-- The grammar of schemas (IPLD Schemas, the DSL), rule by rule: which tokens a tree derives. Each relation says that the
-- tokens xs are a text of its rule for a part, and then ys; places and names are those of the tokens.
use Rattle.std.specs.Prelude.{◌≡◌, ℕ, ◌+◌, Bool, true, false, IsTrue, List, [], ◌∷◌, Option, Some, None, codes}
use Rattle.ild_parse_grammar.specs.declared.ast.TypeName.{TypeName}
use Rattle.ild_parse_grammar.specs.declared.ast.Name.{Name}
use Rattle.ild_parse_grammar.specs.declared.ast.Text.{Text}
use Rattle.ild_parse_grammar.specs.declared.ast.Number.{Number}
use Rattle.ild_parse_grammar.specs.Sign.{Sign, kind_of_text, is_type, is_name, is_text, is_number}
use Rattle.ild_data.specs.Decimal.{decimal_of}
use Rattle.ild_parse_grammar.specs.Value.{meaning}
use Rattle.ild_parse_grammar.specs.Reference.{Reference, refer, Refers, named, link, list, map}

-- ---- words and marks, names, texts and numbers

abbrev pub IsWord : List ℕ → List Sign → List Sign → Type 0
IsWord word [] ys = ⊥
IsWord word (t ∷ xs) ys = (t.kind ≡ kind_of_text word) × (t.text ≡ word) × (xs ≡ ys)

abbrev pub IsTypeName : TypeName → List Sign → List Sign → Type 0
IsTypeName n [] ys = ⊥
IsTypeName n (t ∷ xs) ys = IsTrue (is_type (t ∷ xs)) × (n.at ≡ t.at) × (n.name ≡ t.text) × (xs ≡ ys)

abbrev pub IsName : Name → List Sign → List Sign → Type 0
IsName n [] ys = ⊥
IsName n (t ∷ xs) ys = IsTrue (is_name (t ∷ xs)) × (n.at ≡ t.at) × (n.name ≡ t.text) × (xs ≡ ys)

abbrev pub IsText : Text → List Sign → List Sign → Type 0
IsText x [] ys = ⊥
IsText x (t ∷ xs) ys = IsTrue (is_text (t ∷ xs)) × (x.at ≡ t.at) × (x.text ≡ meaning t.text) × (xs ≡ ys)

abbrev pub IsNumber : Number → List Sign → List Sign → Type 0
IsNumber n [] ys = ⊥
IsNumber n (t ∷ xs) ys = IsTrue (is_number (t ∷ xs)) × (n.at ≡ t.at) × (decimal_of t.text ≡ Some n.value) × (xs ≡ ys)

-- a part begins at this place
abbrev pub BeginsAt : ℕ → List Sign → Type 0
BeginsAt at [] = ⊥
BeginsAt at (t ∷ xs) = at ≡ t.at

-- [ word ]
abbrev pub IsOptionalWord : List ℕ → Bool → List Sign → List Sign → Type 0
IsOptionalWord word true xs ys = IsWord word xs ys
IsOptionalWord word false xs ys = xs ≡ ys

-- [ part ]
abbrev pub IsOptional : {A : Type 0} → (A → List Sign → List Sign → Type 0) → Option A → List Sign → List Sign → Type 0
IsOptional part None xs ys = xs ≡ ys
IsOptional part (Some a) xs ys = part a xs ys

-- { part }
abbrev pub AreParts : {A : Type 0} → (A → List Sign → List Sign → Type 0) → List A → List Sign → List Sign → Type 0
AreParts part [] xs ys = xs ≡ ys
AreParts part (a ∷ more) xs ys = (us : List Sign) × part a xs us × AreParts part more us ys

-- "{" { part } "}"
abbrev pub AreBraced : {A : Type 0} → (A → List Sign → List Sign → Type 0) → List A → List Sign → List Sign → Type 0
AreBraced part all xs ys = (us vs : List Sign) × IsWord (codes "{") xs us × AreParts part all us vs × IsWord (codes "}") vs ys

-- "representation" form
abbrev pub IsFormed : {A : Type 0} → (A → List Sign → List Sign → Type 0) → A → List Sign → List Sign → Type 0
IsFormed form a xs ys = (us : List Sign) × IsWord (codes "representation") xs us × form a us ys

-- inline types nest 32 deep
abbrev pub deepest : ℕ
deepest = 32

-- ---- references, with room for so many nested inline types
--   ref = [ "nullable" ] inline
--   inline = Type | "&" Type | "[" ref "]" | "{" Type ":" ref "}"

abbrev mutual
  pub IsReference : ℕ → Reference → List Sign → List Sign → Type 0
  IsReference room (refer at nullable type_at r) xs ys =
      (us : List Sign) × IsOptionalWord (codes "nullable") nullable xs us × BeginsAt at xs × BeginsAt type_at us × IsInline room r us ys

  pub IsInline : ℕ → Refers → List Sign → List Sign → Type 0
  IsInline room (named n) xs ys = IsTypeName n xs ys
  IsInline room (link n) xs ys = (inner : ℕ) × (room ≡ inner + 1) × ((us : List Sign) × IsWord (codes "&") xs us × IsTypeName n us ys)
  IsInline room (list r) xs ys =
      (inner : ℕ) × (room ≡ inner + 1) × ((us vs : List Sign) × IsWord (codes "[") xs us × IsReference inner r us vs × IsWord (codes "]") vs ys)
  IsInline room (map k r) xs ys =
      (inner : ℕ) × (room ≡ inner + 1) × ((us vs ws zs : List Sign) × IsWord (codes "{") xs us × IsTypeName k us vs × IsWord (codes ":") vs ws
      × IsReference inner r ws zs × IsWord (codes "}") zs ys)
