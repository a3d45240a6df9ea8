-- What is written of data is read back as its JSON value.
use Rattle.std.proofs.Common.{◌≡◌, ℕ, ◌≤◌, ℤ, pos, negsuc, List, [], ◌∷◌, ◌++◌, Option, Some, option_map, option_and_then, refl, sym, ap, ◌∙◌, subst, arith, append_assoc, append-nil}
use Rattle.std.proofs.lemmas.Int.{ints}
use Rattle.std.specs.List.{AllByRecursion}
use Rattle.json.specs.Token.{Token}
use Rattle.json.specs.Lex.{tokens}
use Rattle.json.specs.Json as doc
use Rattle.json.specs.Tree as tree
use Rattle.json.proofs.Printed.Trees.{value-json_tokens}
use Rattle.serde_json.specs.Data as json
use Rattle.serde_json.specs.Find.{of_integer}
use Rattle.serde_json.specs.Read.{number_of, of_json, of_items, of_members, read, max_depth}
use Rattle.serde_json.specs.Written.{number_text, outline, items_outline, members_outline}
use Rattle.serde_json.proofs.Numbers.{number_of-decimal, number_of-negative}
use Rattle.ild_data.specs.Data.{Data, null, boolean, integer, text, bytes, list, map, link, Items, no_items, item, Members, no_members, member, members_list}
use Rattle.ild_data.specs.Integer.{IsInt}
use Rattle.ild_data.specs.Tree.{IsTree, AreTrees, AreEntries}
use Rattle.ild_json.specs.Printing.{json_of, items_json, members_json, put_members}
use Rattle.ild_json.specs.Tokens.{data_tokens}
use Rattle.ild_json.proofs.Bytewise.{Climbs, climbs_all, all_keep, put_behind}
use Rattle.ild_json.proofs.Order.{put_all_bytewise}
use Rattle.ild_json.proofs.Shows.{as_members, put_as, put_all_as}

-- ---- as deep as the value

mutual
  outline_depth : (d : json.Data) → tree.depth (outline d) ≤ json.depth d
  outline_depth json.null = omega arith
  outline_depth (json.boolean b) = omega arith
  outline_depth (json.number n) = omega arith
  outline_depth (json.string s) = omega arith
  outline_depth (json.array ds) = let parts = items_outline_depth ds in omega (arith, parts)
  outline_depth (json.object ms) = let parts = members_outline_depth ms in omega (arith, parts)

  items_outline_depth : (ds : json.Items) → tree.items_depth (items_outline ds) ≤ json.items_depth ds
  items_outline_depth json.no_items = omega arith
  items_outline_depth (json.item d ds) = let one = outline_depth d in let others = items_outline_depth ds in omega (arith, one, others)

  members_outline_depth : (ms : json.Members) → tree.members_depth (members_outline ms) ≤ json.members_depth ms
  members_outline_depth json.no_members = omega arith
  members_outline_depth (json.member k d ms) = let one = outline_depth d in let others = members_outline_depth ms in omega (arith, one, others)

-- ---- each part

integer_read : (n : ℤ) → IsInt n → number_of (number_text (of_integer n)) ≡ Some (of_integer n)
integer_read (pos n) fits = number_of-decimal n (omega (arith, ints, fits.1))
integer_read (negsuc n) fits = number_of-negative n (omega (arith, ints, fits.0))

abbrev Reads : List ℕ × Data → Type 0
Reads e = of_json (outline (json_of e.1)) ≡ Some (json_of e.1)

members_back : (done es : List (List ℕ × Data)) → Climbs (done ++ es) → AllByRecursion Reads es → of_members (members_outline (as_members es)) (as_members done) ≡ Some (as_members (done ++ es))
members_back done [] up all = ap (λ xs. Some (as_members xs)) (sym (append-nil done))
members_back done (e ∷ es) up all =
    let regrouped : done ++ e ∷ es ≡ (done ++ e ∷ []) ++ es = sym (append_assoc done (e ∷ []) es) in
    ap (option_and_then (λ d. of_members (members_outline (as_members es)) (json.put e.0 d (as_members done)))) all.0
    ∙ ap (of_members (members_outline (as_members es))) (put_as e.0 e.1 done ∙ ap as_members (put_behind done e es up))
    ∙ members_back (done ++ e ∷ []) es (subst (λ (xs : List (List ℕ × Data)). Climbs xs) regrouped up) all.1 ∙ ap (λ xs. Some (as_members xs)) (sym regrouped)

object_back : (ms : Members) → AllByRecursion Reads (members_list ms) → of_members (members_outline (put_members (members_json ms) json.no_members)) json.no_members ≡ Some (put_members (members_json ms) json.no_members)
object_back ms all =
    let es = put_all_bytewise (members_list ms) [] in
    let same : put_members (members_json ms) json.no_members ≡ as_members es = put_all_as ms [] in
    subst (λ (os : json.Members). of_members (members_outline os) json.no_members ≡ Some os) (sym same) (members_back [] es (climbs_all (members_list ms) [] tt) (all_keep Reads (members_list ms) [] all tt))

mutual
  data_back : (d : Data) → IsTree d → of_json (outline (json_of d)) ≡ Some (json_of d)
  data_back null is = refl
  data_back (boolean b) is = refl
  data_back (integer n) is = ap (option_map json.number) (integer_read n is)
  data_back (text s) is = refl
  data_back (bytes b) is = refl
  data_back (list ds) is = ap (option_map json.array) (items_back ds is)
  data_back (map ms) is = ap (option_map json.object) (object_back ms (entries_back ms is))
  data_back (link cid) is = refl

  items_back : (ds : Items) → AreTrees ds → of_items (items_outline (items_json ds)) ≡ Some (items_json ds)
  items_back no_items is = refl
  items_back (item d ds) is =
      ap (option_and_then (λ e. option_map (json.item e) (of_items (items_outline (items_json ds))))) (data_back d is.0) ∙ ap (option_map (json.item (json_of d))) (items_back ds is.1)

  entries_back : (ms : Members) → AreEntries ms → AllByRecursion Reads (members_list ms)
  entries_back no_members is = tt
  entries_back (member k d ms) is = (data_back d is.1, entries_back ms is.3)

-- the tokens of a tree are read as its JSON value
pub tokens_back : (d : Data) (s : List ℕ) → IsTree d → tokens s ≡ data_tokens d → json.depth (json_of d) ≤ max_depth → read s ≡ Some (json_of d)
tokens_back d s is written shallow =
    let whole : Option (doc.Json × List Token) → Option json.Data = λ o. option_and_then of_json (option_and_then (λ p. doc.if_last p.0 p.1) o) in
    let deep = outline_depth (json_of d) in
    ap (λ ts. whole (doc.value max_depth ts)) (written ∙ sym (append-nil (data_tokens d)))
    ∙ ap whole (value-json_tokens (outline (json_of d)) max_depth [] (omega (arith, deep, shallow))) ∙ data_back d is
