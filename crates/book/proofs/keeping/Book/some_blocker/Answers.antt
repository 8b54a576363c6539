use Rattle.std.proofs.Common.{Bool, ◌&&◌, ◌∙◌, rules}
use Rattle.std.proofs.lemmas.Iterator.Search.{any_from_yields_List}
use Rattle.ranks.specs.declared.Client.{Client}
use Rattle.book.specs.Requests.{blocks}
use Rattle.book.proofs.ScanLaws.{YieldsList-from_clients, some_client}
use Rattle.book.proofs.keeping.Book.some_blocker.Goals as goal

pub returns : goal.returns
returns g c =
    λ test says. let both : Client → Bool = λ d. blocks c.args.self.now.inner c.args.request d.0 && test d.0 in
    any_from_yields_List both _ _ c.any.result c.any.ensures.ran
    (YieldsList-from_clients _ c.map.ensures.source c.map.ensures.closure (λ x r q k. search rules)) (λ x b q k. search rules)
    ∙ some_client both
