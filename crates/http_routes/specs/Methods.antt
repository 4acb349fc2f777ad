-- The methods of the routes, and where a request goes (Azure Batch REST reference, in this project's profile).
use Rattle.std.specs.Prelude.{ℕ, Bool, true, false, List, codes, Option, Some, None, option_map, if◌then◌else◌}
use Rattle.std.specs.Str.{bytes_eq}
use Rattle.matchit.specs.Seek.{first}
use Rattle.http_routes.specs.declared.route.Route.{Route}
use Rattle.http_routes.specs.declared.route.Route.TheVariants.{Pools, Pool, PoolNodes, Jobs, Job, JobTasks, JobTaskCounts, Task}
use Rattle.http_routes.specs.declared.method.Method.{Method}
use Rattle.http_routes.specs.declared.method.Method.TheVariants.{Get, Post, Patch, Delete}
use Rattle.http_routes.specs.declared.method.AllowedMethods.{AllowedMethods}
use Rattle.http_routes.specs.declared.method.AllowedMethods.TheVariants.{Get as OnlyGet, Post as OnlyPost, PostGet, GetDelete, GetPatchDelete}
use Rattle.http_routes.specs.declared.method.Routing.{Routing}
use Rattle.http_routes.specs.declared.method.Routing.TheVariants.{NotFound, MethodNotAllowed, Found}
use Rattle.http_routes.specs.Table.{route_rows, route_of}

-- the names of methods (RFC 9110, section 9; RFC 5789)
unfoldable pub get_text : List ℕ
get_text = codes "GET"

unfoldable pub post_text : List ℕ
post_text = codes "POST"

unfoldable pub patch_text : List ℕ
patch_text = codes "PATCH"

unfoldable pub delete_text : List ℕ
delete_text = codes "DELETE"

unfoldable pub head_text : List ℕ
head_text = codes "HEAD"

-- the method with this name, if some route has it; names are case-sensitive
abbrev pub method_of : List ℕ → Option Method
method_of name =
    if bytes_eq name get_text then Some Get else (
    if bytes_eq name post_text then Some Post else (
    if bytes_eq name patch_text then Some Patch else (
    if bytes_eq name delete_text then Some Delete else None)))

-- the methods of each route
abbrev pub methods_of : Route → AllowedMethods
methods_of Pools = PostGet
methods_of Jobs = PostGet
methods_of JobTasks = PostGet
methods_of Pool = GetDelete
methods_of Task = GetDelete
methods_of Job = GetPatchDelete
methods_of PoolNodes = OnlyGet
methods_of JobTaskCounts = OnlyGet
methods_of _ = OnlyPost

-- whether these methods have this one
abbrev pub allows : AllowedMethods → Method → Bool
allows OnlyGet Get = true
allows OnlyPost Post = true
allows PostGet Get = true
allows PostGet Post = true
allows GetDelete Get = true
allows GetDelete Delete = true
allows GetPatchDelete Get = true
allows GetPatchDelete Patch = true
allows GetPatchDelete Delete = true
allows _ _ = false

-- the methods as `Allow` lists them (RFC 9110, section 10.2.1), in the order of the reference's routes
unfoldable pub allow_text : AllowedMethods → List ℕ
allow_text OnlyGet = codes "GET"
allow_text OnlyPost = codes "POST"
allow_text PostGet = codes "POST, GET"
allow_text GetDelete = codes "GET, DELETE"
allow_text GetPatchDelete = codes "GET, PATCH, DELETE"

-- where a request for this route goes
abbrev pub routing_in : Route → Option Method → Routing
routing_in route None = MethodNotAllowed (methods_of route)
routing_in route (Some method) = if allows (methods_of route) method then Found route method else MethodNotAllowed (methods_of route)

-- where a request goes whose path names this route, if any
abbrev pub routing_at : Option Route → Option Method → Routing
routing_at None method = NotFound
routing_at (Some route) method = routing_in route method

-- where a request with this method and path goes
abbrev pub routing : List ℕ → List ℕ → Routing
routing method path = routing_at (option_map route_of (first route_rows path)) (method_of method)
