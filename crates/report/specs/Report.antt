-- The report of an answer as text: 01's "Report of B, whole", and "A refusal prints one line". Each line ends with one line feed, the last too.
-- Assumes nothing.
use Rattle.std.specs.Prelude.{ℕ, List, [], ◌∷◌, ◌++◌, eqb}
use Prim.Native.String.{String}
use Rattle.std.proofs.Math.Option.{Option, some, none}
use Rattle.search.specs.Choose.{choose}
use Rattle.text.specs.Ascii.{space, line_feed}
use Rattle.text.specs.Lines.{Piece, word, number, line}
use Rattle.store.specs.Refusal.{Refusal}
use Rattle.trace.specs.Result.{Result, refused, taken}
use Rattle.levels.specs.Level.{Level, levels, MR, MW, RYW, WFR, CC, UA, PSI, CP, SI, SER}
use Rattle.verdicts.specs.Told.{Told}
use Rattle.judging.specs.Answers.{Judged}

-- "`writer` and that number stand at the end of a code 13 line" (02, E13), and of no other
abbrev pub writer_pieces : Refusal → List Piece
writer_pieces r = choose (eqb r.code 13) (word "writer" ∷ number r.writer ∷ []) []

-- a line from behind one of its pieces on
abbrev pub behind : List Piece → List ℕ
behind [] = line_feed ∷ []
behind (p ∷ ps) = space ∷ line (p ∷ ps)

-- refused 1 record 0 key 0 version 0, or: refused 13 record 1 key 0 version 0 writer 0
unfoldable pub refusal_line : Refusal → List ℕ
refusal_line r =
    line
    (word "refused" ∷ number r.code ∷ word "record" ∷ number r.at_record ∷ word "key" ∷ number r.key ∷ word "version" ∷ number r.version ∷ writer_pieces r)

-- records 2 commits 2
unfoldable pub counts_line : ℕ → ℕ → List ℕ
counts_line records commits = line (word "records" ∷ number records ∷ word "commits" ∷ number commits ∷ [])

abbrev pub level_name : Level → String
level_name MR = "MR"
level_name MW = "MW"
level_name RYW = "RYW"
level_name WFR = "WFR"
level_name CC = "CC"
level_name UA = "UA"
level_name PSI = "PSI"
level_name CP = "CP"
level_name SI = "SI"
level_name SER = "SER"

-- refused record 2 clause 5 key 0 version 1
abbrev pub failure_pieces : ℕ → ℕ → ℕ → ℕ → List Piece
failure_pieces at_record clause key version =
    word "refused" ∷ word "record" ∷ number at_record ∷ word "clause" ∷ number clause ∷ word "key" ∷ number key ∷ word "version" ∷ number version ∷ []

abbrev pub verdict_pieces : Option Told → List Piece
verdict_pieces none = word "accepted" ∷ []
verdict_pieces (some f) = failure_pieces f.at_record f.clause f.key f.version

-- MR accepted, or: UA refused record 2 clause 5 key 0 version 1
unfoldable pub verdict_line : Level → Option Told → List ℕ
verdict_line l v = line (word (level_name l) ∷ verdict_pieces v)

-- a line for each level
abbrev pub verdict_lines : List Level → List (Option Told) → List ℕ
verdict_lines (l ∷ ls) (v ∷ vs) = verdict_line l v ++ verdict_lines ls vs
verdict_lines (l ∷ ls) [] = []
verdict_lines [] vs = []

-- the report: the counts and the verdicts "in report order" of what was judged, or the refusal
unfoldable pub report_text : Result Judged → List ℕ
report_text (refused r) = refusal_line r
report_text (taken j) = counts_line j.records j.commits ++ verdict_lines levels j.verdicts
