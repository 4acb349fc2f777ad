use Rattle.batch_http.proofs.Leading.{is_served}
use Rattle.batch_http.proofs.connection.serve.Goals as goal

pub returns-clause-served : goal.returns-clause-served
returns-clause-served g c = is_served _ _ c.serve_link.ensures.served
