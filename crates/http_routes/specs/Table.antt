-- The rows of the router, in the order in which the kit's `matchit` keeps them: of two paths the longer goes before its prefix,
-- and a byte before a parameter. The routes are those of the Azure Batch REST reference, in this project's profile.
use Rattle.std.specs.Prelude.{ℕ, List, [], ◌∷◌, ◌++◌, codes}
use Rattle.matchit.specs.Rows.{RowsOf, param_token}
use Rattle.matchit.specs.Router.{RouteOf}
use Rattle.http_routes.specs.declared.route.Route.{Route}
use Rattle.http_routes.specs.declared.route.Route.TheVariants.{Pools, Pool, PoolResize, PoolStopResize, PoolEnableAutoscale, PoolDisableAutoscale, PoolEvaluateAutoscale, PoolNodes, Jobs, Job, JobDisable, JobEnable, JobTerminate, JobAddTasks, JobTasks, JobTaskCounts, Task, TaskTerminate, TaskReactivate}

-- what a row of the router names
abbrev pub route_of : RouteOf Route → Route
route_of row = row.value

-- a row: the bytes of a path with its parameters, the text of the path, where the parameters' names are in it, and the route
abbrev pub entry : List ℕ → List ℕ → List (ℕ × ℕ) → Route → List ℕ × RouteOf Route
entry tokens text names route = (tokens, record { pattern = tokens; text = text; names = names; value = route })

-- the rows once the routes of pools are added
unfoldable pub pool_rows : RowsOf (RouteOf Route)
pool_rows =
    entry (codes "/pools/" ++ (param_token ∷ (codes "/disableautoscale"))) (codes "/pools/{pool}/disableautoscale") ((8, 12) ∷ []) PoolDisableAutoscale
    ∷ (entry (codes "/pools/" ++ (param_token ∷ (codes "/enableautoscale"))) (codes "/pools/{pool}/enableautoscale") ((8, 12) ∷ []) PoolEnableAutoscale
    ∷ (entry (codes "/pools/" ++ (param_token ∷ (codes "/evaluateautoscale"))) (codes "/pools/{pool}/evaluateautoscale") ((8, 12) ∷ []) PoolEvaluateAutoscale
    ∷ (entry (codes "/pools/" ++ (param_token ∷ (codes "/nodes"))) (codes "/pools/{pool}/nodes") ((8, 12) ∷ []) PoolNodes
    ∷ (entry (codes "/pools/" ++ (param_token ∷ (codes "/resize"))) (codes "/pools/{pool}/resize") ((8, 12) ∷ []) PoolResize
    ∷ (entry (codes "/pools/" ++ (param_token ∷ (codes "/stopresize"))) (codes "/pools/{pool}/stopresize") ((8, 12) ∷ []) PoolStopResize
    ∷ (entry (codes "/pools/" ++ (param_token ∷ [])) (codes "/pools/{pool}") ((8, 12) ∷ []) Pool
    ∷ (entry (codes "/pools") (codes "/pools") [] Pools ∷ [])))))))

-- the rows once the routes of jobs are added too
unfoldable pub job_rows : RowsOf (RouteOf Route)
job_rows =
    entry (codes "/jobs/" ++ (param_token ∷ (codes "/addtaskcollection"))) (codes "/jobs/{job}/addtaskcollection") ((7, 10) ∷ []) JobAddTasks
    ∷ (entry (codes "/jobs/" ++ (param_token ∷ (codes "/disable"))) (codes "/jobs/{job}/disable") ((7, 10) ∷ []) JobDisable
    ∷ (entry (codes "/jobs/" ++ (param_token ∷ (codes "/enable"))) (codes "/jobs/{job}/enable") ((7, 10) ∷ []) JobEnable
    ∷ (entry (codes "/jobs/" ++ (param_token ∷ (codes "/taskcounts"))) (codes "/jobs/{job}/taskcounts") ((7, 10) ∷ []) JobTaskCounts
    ∷ (entry (codes "/jobs/" ++ (param_token ∷ (codes "/tasks"))) (codes "/jobs/{job}/tasks") ((7, 10) ∷ []) JobTasks
    ∷ (entry (codes "/jobs/" ++ (param_token ∷ (codes "/terminate"))) (codes "/jobs/{job}/terminate") ((7, 10) ∷ []) JobTerminate
    ∷ (entry (codes "/jobs/" ++ (param_token ∷ [])) (codes "/jobs/{job}") ((7, 10) ∷ []) Job
    ∷ (entry (codes "/jobs") (codes "/jobs") [] Jobs ∷ pool_rows)))))))

-- the rows of all routes
unfoldable pub route_rows : RowsOf (RouteOf Route)
route_rows =
    entry (codes "/jobs/" ++ (param_token ∷ (codes "/addtaskcollection"))) (codes "/jobs/{job}/addtaskcollection") ((7, 10) ∷ []) JobAddTasks
    ∷ (entry (codes "/jobs/" ++ (param_token ∷ (codes "/disable"))) (codes "/jobs/{job}/disable") ((7, 10) ∷ []) JobDisable
    ∷ (entry (codes "/jobs/" ++ (param_token ∷ (codes "/enable"))) (codes "/jobs/{job}/enable") ((7, 10) ∷ []) JobEnable
    ∷ (entry (codes "/jobs/" ++ (param_token ∷ (codes "/taskcounts"))) (codes "/jobs/{job}/taskcounts") ((7, 10) ∷ []) JobTaskCounts
    ∷ (entry (codes "/jobs/" ++ (param_token ∷ (codes "/tasks/" ++ (param_token ∷ (codes "/reactivate"))))) (codes "/jobs/{job}/tasks/{task}/reactivate") ((7, 10) ∷ (19, 23) ∷ []) TaskReactivate
    ∷ (entry (codes "/jobs/" ++ (param_token ∷ (codes "/tasks/" ++ (param_token ∷ (codes "/terminate"))))) (codes "/jobs/{job}/tasks/{task}/terminate") ((7, 10) ∷ (19, 23) ∷ []) TaskTerminate
    ∷ (entry (codes "/jobs/" ++ (param_token ∷ (codes "/tasks/" ++ (param_token ∷ [])))) (codes "/jobs/{job}/tasks/{task}") ((7, 10) ∷ (19, 23) ∷ []) Task
    ∷ (entry (codes "/jobs/" ++ (param_token ∷ (codes "/tasks"))) (codes "/jobs/{job}/tasks") ((7, 10) ∷ []) JobTasks
    ∷ (entry (codes "/jobs/" ++ (param_token ∷ (codes "/terminate"))) (codes "/jobs/{job}/terminate") ((7, 10) ∷ []) JobTerminate
    ∷ (entry (codes "/jobs/" ++ (param_token ∷ [])) (codes "/jobs/{job}") ((7, 10) ∷ []) Job
    ∷ (entry (codes "/jobs") (codes "/jobs") [] Jobs ∷ pool_rows))))))))))
