-- How long a report can be: each number of it has 64 bits, and so at most 20 digits. Assumes nothing.
use Rattle.std.specs.Prelude.{ℕ, ◌+◌, ◌*◌}
use Rattle.text.specs.Put.{most_digits}

-- a number behind a label of so many bytes
abbrev longest_field : ℕ → ℕ
longest_field label = label + most_digits

-- behind the version of a refusal: " writer 0", and a line feed
abbrev pub longest_end : ℕ
longest_end = longest_field 8 + 1

-- "refused 13 record 1 key 0 version 0 writer 0", and a line feed
abbrev pub longest_refusal : ℕ
longest_refusal = longest_field 8 + longest_field 8 + longest_field 5 + longest_field 9 + longest_end

-- "records 2 commits 2", and a line feed
abbrev pub longest_counts : ℕ
longest_counts = longest_field 8 + longest_field 9 + 1

-- behind the name of a level: " refused record 2 clause 5 key 0 version 1", and a line feed
abbrev pub longest_verdict : ℕ
longest_verdict = longest_field 16 + longest_field 8 + longest_field 5 + longest_field 9 + 1

-- the counts and ten verdicts; the names of the levels have 24 letters in all
abbrev pub longest_report : ℕ
longest_report = longest_counts + (24 + 10 * longest_verdict)
