-- A cached policy that is told what it remembers.
use Rattle.std.proofs.Common.{◌≡◌, Some, sym, refl, ap, ◌∙◌}
use Rattle.rules.specs.Policies.{CachedAsked, memory}
use Rattle.rules.specs.Tables.{Effect}
use Rattle.rules.specs.declared.Request.{Request}
use Rattle.rules.specs.declared.cached.Cached.{Cached}
use Rattle.rules.specs.declared.cached.Memory.{Memory}

-- what is remembered is one memory
same_memory : {L : Type 0} (x y : Memory L) → Some x ≡ Some y → x ≡ y
same_memory x y e = cc

-- asked what it remembers, it answers from memory and stays as it is
pub recalled : {P L : Type 0} {asked : Effect P L} (s : Cached P L) (m : Memory L) (q : Request L)
    → s.last ≡ Some m → m.request ≡ q → CachedAsked asked s q m.answer s
recalled s m q held same =
    let e : s.last ≡ memory q m.answer = held ∙ ap (λ x. memory x m.answer) same in
    record {
      remembers = e;
      hit = λ a f. (ap (λ x. x.answer) (same_memory _ _ (sym e ∙ f)), refl);
      miss = λ other. absurd (other m.answer e);
    }
