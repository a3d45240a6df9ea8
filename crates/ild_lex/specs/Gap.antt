-- What stands between tokens: white space, and comments from # up to LF.
use Rattle.std.specs.Prelude.{◌≡◌, ℕ, ◌==◌, IsTrue, List, [], ◌∷◌, MatchBool, All, ◌≢◌}
use Rattle.ild_lex.specs.Bytes.{is_blank, hash, line_feed}

-- white space and whole comments
abbrev mutual
  pub IsGap : List ℕ → Type 0
  IsGap [] = Unit {0}
  IsGap (b ∷ bs) = MatchBool (b == hash) (IsComment bs) (IsTrue (is_blank b) × IsGap bs)

  -- behind the #: anything up to LF, and what may follow that
  pub IsComment : List ℕ → Type 0
  IsComment [] = ⊥
  IsComment (b ∷ bs) = MatchBool (b == line_feed) (IsGap bs) (IsComment bs)

-- a comment, or nothing, up to the end of the text
abbrev pub IsLastComment : List ℕ → Type 0
IsLastComment [] = Unit {0}
IsLastComment (b ∷ bs) = (b ≡ hash) × All (λ c. c ≢ line_feed) bs
