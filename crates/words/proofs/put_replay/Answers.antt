-- `words::put_replay` meets its contract. Assumes nothing.
use mathlib.Core.Path.{sym, ap}
use mathlib.Core.List.{[], ◌∷◌}
use native.Mathlib.Omega.{arith}
use Rattle.replaying.specs.Answers.{replay_of}
use Rattle.words.proofs.PutWords.{told-words}
use Rattle.words.proofs.put_replay.Goals as goal

pub returns-in-Ok : goal.returns-in-Ok
returns-in-Ok c =
    let put = c.put_count.ensures in
    told-words (λ n. n ∷ []) (sym (ap replay_of c.in-Ok.is)) c.args.out.now _ _ (omega (arith, put.0)) put.1

pub returns-in-Err : goal.returns-in-Err
returns-in-Err c =
    let put = c.put_refusal.ensures in
    told-words (λ n. n ∷ []) (sym (ap replay_of c.in-Err.is)) c.args.out.now _ _ put.0 put.1
