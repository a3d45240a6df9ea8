-- Words that are wrong, in the order of the text.
use Rattle.std.proofs.Common.{◌≡◌, ◌⊎◌, inl, inr, ℕ, suc, List, [], ◌∷◌, ◌++◌, false, Option, Some, None, bytes_eq, codes, refl, ap, ◌∙◌}
use Rattle.std.specs.Option.{option_or}
use Rattle.ild_parse_grammar.specs.declared.ast.TypeName.{TypeName}
use Rattle.ild_parse_grammar.specs.declared.ast.EnumMember.{EnumMember}
use Rattle.ild_resolve.specs.Events.{Event, uses, each_events, enum_member_events}
use Rattle.ild_resolve.specs.Faults.{event_fault, first_wrong}
use Rattle.ild_resolve.specs.declared.error.ResolveErr.{ResolveErr}
use Rattle.ild_resolve.specs.declared.error.ResolveErr.TheVariants as E

-- a name that is not `Float` and stands for no type
pub unknown : (numbers : List ℕ → Option ℕ) (t : TypeName) → bytes_eq t.name (codes "Float") ≡ false → numbers t.name ≡ None → first_wrong numbers (uses t ∷ []) ≡ Some (E.Unknown t.at)
unknown numbers t other none = rw (other, none) refl

-- the first wrong word of two parts is that of the first, or else that of the second
pub first_wrong-append : (numbers : List ℕ → Option ℕ) (xs ys : List Event) → first_wrong numbers (xs ++ ys) ≡ option_or (first_wrong numbers xs) (first_wrong numbers ys)
first_wrong-append numbers [] ys = refl
first_wrong-append numbers (x ∷ xs) ys = ap (option_or (event_fault numbers x)) (first_wrong-append numbers xs ys) ∙ either (event_fault numbers x)
  where
    either : (o : Option ResolveErr) → option_or o (option_or (first_wrong numbers xs) (first_wrong numbers ys)) ≡ option_or (option_or o (first_wrong numbers xs)) (first_wrong numbers ys)
    either (Some e) = refl
    either None = refl

-- parts in which nothing is wrong
pub right-both : (numbers : List ℕ → Option ℕ) (xs ys : List Event) → first_wrong numbers xs ≡ None → first_wrong numbers ys ≡ None → first_wrong numbers (xs ++ ys) ≡ None
right-both numbers xs ys first next = rw (first_wrong-append numbers xs ys, first) next

-- what is wrong where nothing is before it
pub wrong-next : (numbers : List ℕ → Option ℕ) (xs ys : List Event) (e : ResolveErr) → first_wrong numbers xs ≡ None → (e ≡ E.Memory) ⊎ (first_wrong numbers ys ≡ Some e) → (e ≡ E.Memory) ⊎ (first_wrong numbers (xs ++ ys) ≡ Some e)
wrong-next numbers xs ys e right (inl memory) = inl memory
wrong-next numbers xs ys e right (inr wrong) = inr (rw (first_wrong-append numbers xs ys, right) wrong)

-- what is wrong stays the first where more follows
pub wrong-first : (numbers : List ℕ → Option ℕ) (xs ys : List Event) (e : ResolveErr) → (e ≡ E.Memory) ⊎ (first_wrong numbers xs ≡ Some e) → (e ≡ E.Memory) ⊎ (first_wrong numbers (xs ++ ys) ≡ Some e)
wrong-first numbers xs ys e (inl memory) = inl memory
wrong-first numbers xs ys e (inr wrong) = inr (rw (first_wrong-append numbers xs ys, wrong) refl)

-- no word of an enum is looked up
pub enum_members-right : (numbers : List ℕ → Option ℕ) (before : ℕ) (ms : List EnumMember) → first_wrong numbers (each_events enum_member_events before ms) ≡ None
enum_members-right numbers before [] = refl
enum_members-right numbers before (m ∷ ms) = enum_members-right numbers (suc before) ms
