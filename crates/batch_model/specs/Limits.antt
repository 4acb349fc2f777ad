-- How many rows the tables take, and how large a request may be.
-- Source: Azure Batch REST reference, the limits of a collection and of dependsOn; the others are this project's own.
use Rattle.std.specs.Prelude.{ℕ}
use Rattle.bt_rows.specs.declared.limits.TheConstants.{SEAT_LIMIT, POOL_LIMIT, JOB_LIMIT, TASK_LIMIT, COLLECTION_LIMIT, DEPENDENCY_ID_LIMIT}

-- a machine has at most 32 seats, so as many nodes at a time
abbrev pub seat_limit : ℕ
seat_limit = SEAT_LIMIT

-- 64 pools
abbrev pub pool_limit : ℕ
pool_limit = POOL_LIMIT

-- 10,000 jobs
abbrev pub job_limit : ℕ
job_limit = JOB_LIMIT

-- 1,000,000 tasks of all jobs together
abbrev pub task_limit : ℕ
task_limit = TASK_LIMIT

-- one request adds at most 100 tasks
abbrev pub collection_limit : ℕ
collection_limit = COLLECTION_LIMIT

-- the ids on which one task depends have at most 64,000 characters together
abbrev pub needs_limit : ℕ
needs_limit = DEPENDENCY_ID_LIMIT
