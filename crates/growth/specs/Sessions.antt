-- What the sessions have written and read. Assumes nothing.
use Rattle.std.specs.Prelude.{◌≡◌, ◌⊎◌}
use Rattle.dependencies.specs.History.{History, SO, WR}
use Rattle.store.specs.Store.{CommitNumber, Client}
use Rattle.growth.specs.Made.{CommitBy}

-- a wrote a version that a commit of client d read
abbrev pub ReadByClient : History → Client → CommitNumber → Type 0
ReadByClient H d a = (r : CommitNumber) × CommitBy H d r × WR H a r

-- a is t, or a commit before it in SO
abbrev pub UpTo : History → CommitNumber → CommitNumber → Type 0
UpTo H t a = (a ≡ t) ⊎ SO H a t

-- a wrote a version that was "read by t or by a t' with t' SO t" (clause 4)
abbrev pub ReadUpTo : History → CommitNumber → CommitNumber → Type 0
ReadUpTo H a t = (r : CommitNumber) × UpTo H t r × WR H a r
